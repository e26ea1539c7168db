-- Tables of two digits for each number, one after the other.
use Rattle.std.proofs.Common.{◌≡◌, ℕ, zero, suc, ◌+◌, ◌*◌, ◌<◌, Bool, true, ◌==◌, ◌&&◌, List, slice_index, arith, inl, inr, eqb-true}
use Rattle.std.proofs.lemmas.Bool.{and_parts, cases_lt}

module _ (table : List ℕ) (high low : ℕ → ℕ) where
  -- whether the table has the two digits of each number below n
  abbrev pub has_pairs : ℕ → Bool
  has_pairs zero = true
  has_pairs (suc n) = slice_index table (n * 2) == high n && (slice_index table (n * 2 + 1) == low n && has_pairs n)

  -- Where it has, it has those of each.
  pub pair_at : (n k : ℕ) → has_pairs n ≡ true → k < n → (slice_index table (k * 2) ≡ high k) × (slice_index table (k * 2 + 1) ≡ low k)
  pair_at zero k has below = absurd (omega arith)
  pair_at (suc n) k has below =
      let first = and_parts (slice_index table (n * 2) == high n) (slice_index table (n * 2 + 1) == low n && has_pairs n) has in
      let second = and_parts (slice_index table (n * 2 + 1) == low n) (has_pairs n) first.1 in
      elim (cases_lt k n) [
        | inl earlier ↦ pair_at n k second.1 earlier
        | inr last ↦
            let same : k ≡ n = omega arith in
            rw same (eqb-true _ _ first.0, eqb-true _ _ second.0)
      ]
