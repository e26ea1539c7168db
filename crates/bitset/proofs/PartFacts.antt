-- The part of a set below a number, and a set split into its lowest member and the others.
-- Where the lowest member is k, the word ends in a 1 and k zeros, so subtracting 1 changes these last bits alone, and what both words have in common
-- is the set without k.
use Rattle.std.proofs.Common.{◌≡◌, ℕ, suc, ◌+◌, ◌-◌, ◌*◌, ◌/◌, ◌%◌, ◌^◌, ◌<◌, ◌≤◌, Bool, true, ◌&&◌, ltb, sym, ap, ◌∙◌, inl, inr, arith, pow_pos, shr-shr}
use Rattle.std.specs.Int.{w64, trailing_zeros}
use Rattle.std.proofs.Math.Pow.{pow-lt}
use Rattle.std.proofs.lemmas.Bool.{cases_lt, cases_eq}
use Rattle.std.proofs.lemmas.Bool.Decides.{nat_tests}
use Rattle.std.proofs.lemmas.Nat.Bits.{bit_at-lt, bit_at_or, bit_at_and, bit_at-pow_same, bit_at-pow_other, and_pow, bit_at_above, bit_at_ones, bit_at_ones_above, bit_at_cat_low, bit_at_cat_high, bit_at-trailing_zeros, same_from_bits}
use lib.Bits.{bit_and, bit_or, or_add_and, and_comm}
use Rattle.bitset.specs.Sets.{bit, Member, Lowest, Without, has}

-- a member of a part of a set, made by a test, is in the set and passes the test
pub member_kept : (set part p : ℕ) (b : Bool) → has part p ≡ (has set p && b) → Member p part → Member p set × (b ≡ true)
member_kept set part p b e m = (grind (arith, nat_tests), grind (arith, nat_tests))

-- a set is what is left without one of its members, and that member
pub put_back : (set rest q : ℕ) → Member q set → Without q set rest → set ≡ bit_or (2 ^ q) rest
put_back set rest q m left =
    same_from_bits set (bit_or (2 ^ q) rest)
    (λ p.
    let x = bit_at_or (2 ^ q) rest p in
    let a = bit_at-lt set p in
    let b = bit_at-lt rest p in
    let e = left p in
    elim (cases_eq p q) [
      | inl d ↦ let y = bit_at-pow_same q in grind (arith, nat_tests)
      | inr d ↦ let y = bit_at-pow_other q p d in grind (arith, nat_tests)
    ])

-- a set without one of its members is a smaller word
pub less_without : (set rest q : ℕ) → Member q set → Without q set rest → rest < set
less_without set rest q m left =
    let z : bit rest q ≡ 0 = let e = left q in let b = bit_at-lt rest q in grind (arith, nat_tests) in
    omega (arith, put_back set rest q m left, or_add_and (2 ^ q) rest, and_comm (2 ^ q) rest, and_pow rest q, pow_pos q, ap (λ (x : ℕ). x * 2 ^ q) z)

-- the low n bits of a word have its members below n
pub has_masked : (set n p : ℕ) → has (bit_and set (2 ^ n - 1)) p ≡ (has set p && ltb p n)
has_masked set n p =
    let x = bit_at_and set (2 ^ n - 1) p in
    let b = bit_at-lt set p in
    elim (cases_lt p n) [
      | inl l ↦ let o = bit_at_ones n p l in grind (arith, nat_tests)
      | inr g ↦ let o = bit_at_ones_above n p g in grind (arith, nat_tests)
    ]

-- each member of a word of 64 bits is below a number from 64 on
pub has_below : (set n p : ℕ) → set < 2 ^ 64 → 64 ≤ n → has set p ≡ (has set p && ltb p n)
has_below set n p small past = elim (cases_lt p n) [
  | inl l ↦ grind (arith, nat_tests)
  | inr g ↦ let z = bit_at_above set 64 p small (omega arith) in grind (arith, nat_tests)
]

-- from k on, a word less its low k bits, with others in their place, has its bits
bit_over : (set k low p : ℕ) → low < 2 ^ k → k ≤ p → bit ((set / 2 ^ k) * 2 ^ k + low) p ≡ bit set p
bit_over set k low p small l =
    let e : k + (p - k) ≡ p = omega arith in
    bit_at_cat_high (set / 2 ^ k) k low p small l ∙ ap (λ (x : ℕ). x % 2) (shr-shr set k (p - k)) ∙ ap (bit set) e

-- a word whose lowest member is k, by what stands above
lowest_bits : (set k : ℕ) → Member k set → ((i : ℕ) → i < k → bit set i ≡ 0) → set ≡ (set / 2 ^ suc k) * 2 ^ suc k + 2 ^ k
lowest_bits set k here lower =
    same_from_bits set ((set / 2 ^ suc k) * 2 ^ suc k + 2 ^ k)
    (λ p. elim (cases_lt k p) [
      | inl l ↦ sym (bit_over set (suc k) (2 ^ k) p (pow-lt (omega arith)) l)
      | inr g ↦
          let x = bit_at_cat_low (set / 2 ^ suc k) (suc k) (2 ^ k) p (omega arith) in
          elim (cases_eq p k) [
            | inl e ↦ rw e (here ∙ sym (bit_at-pow_same k) ∙ sym (bit_at_cat_low (set / 2 ^ suc k) (suc k) (2 ^ k) k (omega arith)))
            | inr d ↦ let y = bit_at-pow_other k p d in let z = lower p (omega arith) in omega arith
          ]
    ])

-- to take 1 from a word and keep the bits of both leaves the members other than the lowest
has_others : (set k : ℕ) → Member k set → ((i : ℕ) → i < k → bit set i ≡ 0) → Without k set (bit_and set (set - 1))
has_others set k here lower p =
    let h = set / 2 ^ suc k in
    let low = 2 ^ k - 1 in
    let pos = pow_pos k in
    let small : low < 2 ^ suc k = let l : 2 ^ k < 2 ^ suc k = pow-lt (omega arith) in omega arith in
    let less : set - 1 ≡ h * 2 ^ suc k + low = omega (arith, lowest_bits set k here lower) in
    let x = bit_at_and set (set - 1) p in
    let b = bit_at-lt set p in
    elim (cases_lt k p) [
      | inl l ↦ let y : bit (set - 1) p ≡ bit set p = ap (λ (s : ℕ). bit s p) less ∙ bit_over set (suc k) low p small l in grind (arith, nat_tests)
      | inr g ↦
          elim (cases_eq p k) [
            | inl e ↦
                let y : bit (set - 1) p ≡ 0 = ap (λ (s : ℕ). bit s p) less ∙ bit_at_cat_low h (suc k) low p (omega arith) ∙ bit_at_ones_above k p (omega arith) in
                grind (arith, nat_tests)
            | inr d ↦ let y = lower p (omega arith) in grind (arith, nat_tests)
          ]
    ]

-- the zeros before the lowest 1 of a word count up to its lowest member
pub lowest_split : (set : ℕ) → 0 < set → set < 2 ^ 64 → (let q = trailing_zeros w64 set in Lowest q set × Without q set (bit_and set (set - 1)))
lowest_split set some small =
    let (within, here, lower) = bit_at-trailing_zeros w64 set some small in
    ((here, λ p m. elim (cases_lt p (trailing_zeros w64 set)) [ inl l ↦ absurd (omega (arith, lower p l)) | inr g ↦ g ]), has_others set (trailing_zeros w64 set) here lower)
