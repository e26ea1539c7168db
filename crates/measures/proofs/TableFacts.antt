-- Tables as they are read.
use Rattle.std.proofs.Common.{ltb, leb, ◌≡◌, ℕ, ◌<◌, ◌≤◌, inl, inr, cond, List, length, get_or, Some, None, sym, ap, ◌∙◌, arith}
use Rattle.std.proofs.lemmas.Bool.{cases_lt, cond-true, lt-ltb, le-leb, lt-leb, leb-false}
use Rattle.std.proofs.lemmas.List.Sums.{position_or_len_is, fails_before_first}
use Rattle.std.specs.List.{position_or_len}
use Rattle.std.proofs.lemmas.Option.{none-some}
use Rattle.measures.specs.Formats.{first_over}

module _ (bound : ℕ) (xs : List ℕ) where
  -- the first i entries are below the bound, and there are no more or the next is not
  pub first_over_is : (i : ℕ) → i ≤ length xs → ((k : ℕ) → k < i → get_or xs k 0 < bound) → (i < length xs → bound ≤ get_or xs i 0) → first_over bound xs ≡ cond (ltb i (length xs)) (Some i) None
  first_over_is i fits below here =
      ap (λ (n : ℕ). cond (ltb n (length xs)) (Some n) None)
      (position_or_len_is (λ x. leb bound x) xs i 0 fits (λ k l. lt-leb bound (get_or xs k 0) (below k l)) (λ l. le-leb bound (get_or xs i 0) (here l)))

  -- where there is no first entry that is not below the bound, all are
  pub below_bound : first_over bound xs ≡ None → (k : ℕ) → k < length xs → get_or xs k 0 < bound
  below_bound none k l =
      elim (cases_lt (position_or_len (λ x. leb bound x) xs) (length xs)) [
        | inl h ↦ absurd (none-some _ (sym none ∙ cond-true (ltb (position_or_len (λ x. leb bound x) xs) (length xs)) _ _ (lt-ltb _ _ h)))
        | inr h ↦ leb-false bound (get_or xs k 0) (fails_before_first (λ x. leb bound x) xs k 0 (omega arith))
      ]
