-- What the operations on sets say of their members.
-- Each operation is known bit by bit, and a member is a bit that is 1; two words with the same bits are equal. That a word above 0 has a member is
-- found by halving it.
use Rattle.std.proofs.Common.{◌≡◌, ℕ, zero, suc, ◌+◌, ◌*◌, ◌/◌, ◌%◌, ◌^◌, ◌<◌, ◌≤◌, Bool, true, false, cond, ◌||◌, eqb, ltb, leb, ◌⊎◌, ◌↔◌, Decides, sym, refl, ap, ◌∙◌, inl, inr, ⊎_elim, arith, pow_pos, pow_mono, shr-shr}
use lib.Bits.{bit_and, bit_or}
use native.Mathlib.Nat.{div-lt_iff_lt-mul}
use Rattle.std.proofs.lemmas.Bool.{cases_lt, cases_eq, false≢true}
use Rattle.std.proofs.lemmas.Bool.Decides.{Decides-eqb, Decides-not, Decides-like, Decides-ltb, nat_tests}
use Rattle.std.proofs.lemmas.Nat.Bits.{bit_at-lt, bit_at-suc, bit_at_or, bit_at_and, bit_at-zero, bit_at-pow_same, bit_at_above, same_from_bits}
use Rattle.bitset.specs.Sets.{bit, Member, has, meets, within, those}
use Rattle.bitset.proofs.BitFacts.{bit_pow}

-- a bit is 0 or 1
pub cases_bit : (set q : ℕ) → (bit set q ≡ 0) ⊎ Member q set
cases_bit set q = elim (cases_lt (bit set q) 1) [ inl h ↦ inl (omega arith) | inr h ↦ inr (omega arith) ]

-- two sets with the same members are equal
pub same_members : (a b : ℕ) → ((q : ℕ) → Member q a → Member q b) → ((q : ℕ) → Member q b → Member q a) → a ≡ b
same_members a b to from = same_from_bits a b (λ q. grind (arith, to q, from q, bit_at-lt a q, bit_at-lt b q))

-- a member of a union is a member of one of the two
pub member_or : (a b q : ℕ) → Member q (bit_or a b) → Member q a ⊎ Member q b
member_or a b q m = elim (cases_bit a q) [ inl z ↦ inr (omega (arith, bit_at_or a b q)) | inr i ↦ inl i ]

pub or_member_left : (a b q : ℕ) → Member q a → Member q (bit_or a b)
or_member_left a b q m = omega (arith, bit_at_or a b q)

pub or_member_right : (a b q : ℕ) → Member q b → Member q (bit_or a b)
or_member_right a b q m = omega (arith, bit_at_or a b q)

pub has_or : (a b q : ℕ) → has (bit_or a b) q ≡ (has a q || has b q)
has_or a b q = let e = bit_at_or a b q in grind (arith, nat_tests)

member_search : (k set : ℕ) → set ≤ k → 0 < set → (q : ℕ) × Member q set
member_search zero set h p = absurd (omega arith)
member_search (suc k) set h p =
    elim (cases_bit set 0) [
      | inl z ↦
          let low : set / 1 % 2 ≡ 0 = z in
          let (q, m) = member_search k (set / 2) (omega arith) (omega arith) in
          (suc q, bit_at-suc set q ∙ m)
      | inr m ↦ (0, m)
    ]

-- a word above 0 has a member
pub some_member : (set : ℕ) → 0 < set → (q : ℕ) × Member q set
some_member set p = member_search set set (omega arith) p

pub member_pos : (set q : ℕ) → Member q set → 0 < set
member_pos zero q m = absurd (omega (arith, bit_at-zero q))
member_pos (suc set) q m = omega arith

-- two sets meet exactly when they have a common member
pub meets_members : (a b : ℕ) → Decides (meets a b) ((q : ℕ) × Member q a × Member q b)
meets_members a b = Decides-like (meets a b)
    (λ n. let (q, m) = some_member (bit_and a b) (omega arith) in (q, omega (arith, bit_at_and a b q), omega (arith, bit_at_and a b q)))
    (λ p z. let x = member_pos (bit_and a b) p.0 (omega (arith, bit_at_and a b p.0, p.1, p.2)) in omega arith)
    (Decides-not (eqb (bit_and a b) 0) (Decides-eqb (bit_and a b) 0))

-- a set is within another exactly when each of its members is in that
pub within_members : (a b : ℕ) → Decides (within a b) ((q : ℕ) → Member q a → Member q b)
within_members a b = Decides-like (within a b)
    (λ e q m. let x : bit (bit_and a b) q ≡ bit a q = ap (λ (y : ℕ). bit y q) e in omega (arith, bit_at_and a b q))
    (λ f. same_members (bit_and a b) a (λ q m. omega (arith, bit_at_and a b q)) (λ q m. omega (arith, bit_at_and a b q, f q m)))
    (Decides-eqb (bit_and a b) a)

shifted_zero : (n set : ℕ) → set / 2 ^ n ≡ 0 → set < 2 ^ n
shifted_zero n set z = let h : set < 1 * 2 ^ n = (div-lt_iff_lt-mul (pow_pos n)).0 (omega arith) in omega arith

-- a word is below 2 ^ n exactly when its members are below n
pub below_members : (set n : ℕ) → Decides (ltb set (2 ^ n)) ((q : ℕ) → Member q set → q < n)
below_members set n = Decides-like (ltb set (2 ^ n))
    (λ h q m. elim (cases_lt q n) [ inl l ↦ l | inr l ↦ absurd (omega (arith, bit_at_above set n q h l)) ])
    (λ f. shifted_zero n set
    (same_members (set / 2 ^ n) 0
    (λ q m.
    let here : bit set (n + q) ≡ 1 = ap (λ (x : ℕ). x % 2) (sym (shr-shr set n q)) ∙ m in
    let l = f (n + q) here in
    absurd (omega arith))
    (λ q m. absurd (omega (arith, bit_at-zero q)))))
    (Decides-ltb set (2 ^ n))

-- a word of 64 bits is below 2 ^ n where n is past its bits
pub past_below : (set n : ℕ) → set < 2 ^ 64 → 64 ≤ n → leb 64 n ≡ ltb set (2 ^ n)
past_below set n h l = let m = pow_mono l in grind (arith, nat_tests)

-- no bit is left after a shift by n exactly when the word is below 2 ^ n
pub shifted_below : (set n : ℕ) → eqb (set / 2 ^ n) 0 ≡ ltb set (2 ^ n)
shifted_below set n = let h : (set / 2 ^ n < 1) ↔ (set < 1 * 2 ^ n) = div-lt_iff_lt-mul (pow_pos n) in grind (arith, nat_tests)

-- the members of `those f n` are the numbers below n of which f is true
pub those_members : (f : ℕ → Bool) (n q : ℕ) → Member q (those f n) ↔ ((q < n) × (f q ≡ true))
those_members f zero q = (λ m. absurd (omega (arith, bit_at-zero q)), λ p. absurd (let h = p.0 in omega arith))
those_members f (suc n) q = go (f n) refl (those_members f n q)
  where
    go : (b : Bool) → f n ≡ b → Member q (those f n) ↔ ((q < n) × (f q ≡ true)) → Member q (cond b (bit_or (those f n) (2 ^ n)) (those f n)) ↔ ((q < suc n) × (f q ≡ true))
    go true e older = (
      λ m. ⊎_elim (λ i. (let (h, t) = older.0 i in (omega arith, t))) (λ i. (let d = bit_pow n q i in (omega arith, ap f (sym d) ∙ e))) (member_or (those f n) (2 ^ n) q m),
      λ p. elim (cases_eq q n) [
        | inl d ↦ or_member_right (those f n) (2 ^ n) q (rw d (bit_at-pow_same n))
        | inr d ↦ or_member_left (those f n) (2 ^ n) q (older.1 (let h = p.0 in omega arith, p.1))
      ],
    )
    go false e older = (
      λ m. (let (h, t) = older.0 m in (omega arith, t)),
      λ p. elim (cases_eq q n) [ inl d ↦ absurd (false≢true (sym e ∙ ap f (sym d) ∙ p.1)) | inr d ↦ older.1 (let h = p.0 in omega arith, p.1) ],
    )
