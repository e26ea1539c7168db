-- The answer of a comparison is the causal order of the marks.
use Rattle.std.proofs.Common.{◌≡◌, ℕ, ◌<◌, ◌≤◌, List, length, get_or, None, Ok, Result, ap, arith}
use Rattle.std.proofs.lemmas.Bool.Decides.{nat_tests}
use Rattle.history.specs.Limits.{most_units}
use Rattle.history.specs.Precedence.{compare_refusal, compare_answer}
use Rattle.history.specs.declared.precedence.Precedence.{Precedence}
use Rattle.history.specs.declared.refusals.Refusal.{Refusal}
use Rattle.history.proofs.Promises.{stamps_decide, run_unit}
use Rattle.causality.specs.Comparing.{OrdersMarks}

module _ (p q : List ℕ) (u v : ℕ) where
  compared_taken : (n : ℕ) → n ≤ most_units → length p ≡ n → length q ≡ n → u < n → v < n → compare_refusal p q u v ≡ None
  compared_taken n few lp lq hu hv = grind (arith, nat_tests)

  pub orders_marks : OrdersMarks p q u v (compare_answer p q u v)
  orders_marks z cs ok few lp lq i j mi mj si sj o =
      let taken = compared_taken z.units few lp lq (run_unit z cs ok u i mi) (run_unit z cs ok v j mj) in
      let decide = stamps_decide z cs ok u i v j mi mj (λ w. get_or p w 0) (λ w. get_or q w 0) si sj o in
      rw taken (λ e. decide.0 (cc), λ h. ap Ok (decide.1 h))

  -- the same of an answer that is known to be that one
  pub orders_marks_by : (r : Result Precedence Refusal) → r ≡ compare_answer p q u v → OrdersMarks p q u v r
  orders_marks_by r is = rw is orders_marks
