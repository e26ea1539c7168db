-- The places of flags, gathered from the last flag to the first.
use Rattle.std.proofs.Common.{◌≡◌, ℕ, zero, suc, ◌+◌, ◌-◌, ◌*◌, ◌%◌, ◌^◌, ◌<◌, ◌≤◌, Bool, true, false, cond, inl, inr, refl, sym, ap, ap₂, subst, ◌∙◌, arith, pow_mono}
use Rattle.std.specs.Int.Bits.{or_shifted_r}
use Rattle.std.proofs.lemmas.Grind.{or_after_shift}
use Rattle.std.proofs.lemmas.Bool.{cases_Bool, ltb-true}
use Rattle.std.proofs.lemmas.Bool.Decides.{nat_tests}
use mir.Val.{bool_byte}
use lib.Bits.{bit_or}
use Rattle.bitset.specs.Sets.{has, those}
use Rattle.bitset.proofs.MemberFacts.{cases_bit, below_members, those_members}

-- sets of numbers below n that are made by tests which agree below n
pub those_same : (f g : ℕ → Bool) (n : ℕ) → ((j : ℕ) → j < n → f j ≡ g j) → those f n ≡ those g n
those_same f g zero e = refl
those_same f g (suc n) e =
    ap₂ (λ (b : Bool) (x : ℕ). cond b (bit_or x (2 ^ n)) x) (e n (omega arith)) (those_same f g n (λ j h. e j (omega arith)))

-- a number below n is in `those f n` where f is true of it
pub has_those : (f : ℕ → Bool) (n q : ℕ) → q < n → has (those f n) q ≡ f q
has_those f n q h = elim (cases_bit (those f n) q) [
  | inl z ↦ elim (cases_Bool (f q)) [ inl t ↦ absurd (omega (arith, (those_members f n q).1 (h, t))) | inr t ↦ rw t (grind (arith, nat_tests)) ]
  | inr m ↦ let t = ((those_members f n q).0 m).1 in rw t (grind (arith, nat_tests))
]

-- the numbers below n are a word of n bits
pub those_below : (f : ℕ → Bool) (n : ℕ) → those f n < 2 ^ n
those_below f n = ltb-true (those f n) (2 ^ n) ((below_members (those f n) n).1 (λ q m. ((those_members f n q).0 m).0))

-- the number n stands above those below it
pub those_last : (f : ℕ → Bool) (n : ℕ) → those f (suc n) ≡ cond (f n) (2 ^ n + those f n) (those f n)
those_last f n =
    let e : bit_or (those f n) (1 * 2 ^ n) ≡ 1 * 2 ^ n + those f n = or_shifted_r 1 n (those f n) (those_below f n) in
    let one : 1 * 2 ^ n ≡ 2 ^ n = omega arith in
    let d : bit_or (those f n) (2 ^ n) ≡ 2 ^ n + those f n = subst (λ (x : ℕ). bit_or (those f n) x ≡ x + those f n) one e in
    ap (λ (x : ℕ). cond (f n) x (those f n)) d

-- the number 0 stands below the others, which are moved up by one place
those_first : (f : ℕ → Bool) (n : ℕ) → those f (suc n) ≡ those (λ i. f (suc i)) n * 2 + cond (f 0) 1 0
those_first f zero = let a = those_last f 0 in omega arith
those_first f (suc n) =
    let a = those_last f (suc n) in
    let b = those_last (λ i. f (suc i)) n in
    let c = those_first f n in
    grind (arith, nat_tests)

-- one place more, below those from suc q on
those_from : (f : ℕ → Bool) (q n : ℕ) → q < n → those (λ i. f (q + i)) (n - q) ≡ those (λ i. f (suc q + i)) (n - suc q) * 2 + cond (f q) 1 0
those_from f q n h =
    let m = n - suc q in
    let e : n - q ≡ suc m = omega arith in
    let here : q + 0 ≡ q = omega arith in
    let same : those (λ i. f (q + suc i)) m ≡ those (λ i. f (suc q + i)) m = those_same _ _ m (λ j l. let d : q + suc j ≡ suc q + j = omega arith in ap f d) in
    ap (those (λ i. f (q + i))) e ∙ those_first (λ i. f (q + i)) m ∙ ap₂ (λ (x : ℕ) (k : ℕ). x * 2 + cond (f k) 1 0) same here

-- a word of at most 63 bits shifted up by one place, with a bit added below
shifted_with : (set b : ℕ) → set < 2 ^ 63 → b < 2 → bit_or (set * 2 % 2 ^ 64) b ≡ set * 2 + b
shifted_with set b small low = or_after_shift set 2 (2 ^ 64) b refl low (omega arith)

-- a flag as a number
byte_of : (b : Bool) → bool_byte b ≡ cond b 1 0
byte_of true = refl
byte_of false = refl

low_byte : (f : Bool) (b : ℕ) → b ≡ cond f 1 0 → b < 2
low_byte true b e = omega arith
low_byte false b e = omega arith

-- the places from p on, from those after it and the flag there
pub one_before : (f : ℕ → Bool) (p q n set b : ℕ) → q ≡ suc p → q ≤ n → n ≤ 64 → set ≡ those (λ i. f (q + i)) (n - q) → b ≡ bool_byte (f p) → bit_or (set * 2 % 2 ^ 64) b ≡ those (λ i. f (p + i)) (n - p)
one_before f p q n set b next within few is flag =
    let m = n - suc p in
    let e : set ≡ those (λ i. f (suc p + i)) m = subst (λ (k : ℕ). set ≡ those (λ i. f (k + i)) (n - k)) next is in
    let short : m ≤ 63 = omega arith in
    let small : set < 2 ^ 63 = omega (arith, those_below (λ i. f (suc p + i)) m, pow_mono short) in
    let bit_is : b ≡ cond (f p) 1 0 = flag ∙ byte_of (f p) in
    shifted_with set b small (low_byte (f p) b bit_is) ∙ ap₂ (λ (x y : ℕ). x * 2 + y) e bit_is ∙ sym (those_from f p n (omega arith))
