-- What the library lacks on the bits of a word.
use Rattle.std.proofs.Common.{◌≡◌, ℕ, ◌^◌, ◌<◌, sym, arith, inl, inr}
use Rattle.std.proofs.lemmas.Bool.{cases_eq}
use Rattle.std.proofs.lemmas.Nat.Bits.{bit_at_or, bit_at-pow_other, same_from_bits}
use lib.Bits.{bit_or, or_add_and, and_le_r}
use Rattle.bitset.specs.Sets.{Member}

-- the only number in 2 ^ p is p
pub bit_pow : (p q : ℕ) → Member q (2 ^ p) → p ≡ q
bit_pow p q m = elim (cases_eq q p) [ inl e ↦ sym e | inr d ↦ absurd (omega (arith, bit_at-pow_other p q d)) ]

pub or_assoc : (a b c : ℕ) → bit_or (bit_or a b) c ≡ bit_or a (bit_or b c)
or_assoc a b c = same_from_bits _ _ (λ q. grind (arith, bit_at_or))

pub or_pos : (a b : ℕ) → 0 < a → 0 < bit_or a b
or_pos a b h = omega (arith, or_add_and a b, and_le_r a b)
