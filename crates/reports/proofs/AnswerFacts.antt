-- What a board answers to a call under a judge, and the line of the answer.
use Rattle.std.proofs.Common.{◌≡◌, ℕ, Bool, Ok, Err, Result, refl, sym, ap, ◌∙◌}
use Rattle.history.specs.declared.calls.Answer.{Answer}
use Rattle.history.specs.declared.calls.Answer.TheVariants.{Sent, Received, Marked}
use Rattle.history.specs.declared.refusals.Refusal.{Refusal}
use Rattle.history.specs.Board.{answer_map}
use Rattle.measures.specs.declared.judges.JudgedValue.{JudgedValue}
use Rattle.causality.specs.Calls.{result_as}
use Rattle.measures.specs.Calls.{judged_value}
use Rattle.reports.specs.declared.faults.Reason.TheVariants.{Refused}
use Rattle.reports.specs.Steps.{answer_line, judged_line}

module _ (some all : ℕ → Bool) (u : ℕ) where
  -- the line by the verdict that the judge has given is the line by its two answers
  judged_line-is : (a : Answer ℕ) → Ok (judged_line u (answer_map (judged_value some all) a)) ≡ answer_line some all u (Ok a)
  judged_line-is (Sent clock) = refl
  judged_line-is (Received clock) = refl
  judged_line-is (Marked m) = refl

  -- of an answer that a judge was asked of, or of a refusal
  pub judged_answer-line : (x : Result (Answer ℕ) Refusal) (r : Result (Answer (JudgedValue ℕ)) Refusal) → r ≡ result_as (answer_map (judged_value some all)) x
      → (a : Answer (JudgedValue ℕ)) → r ≡ Ok a → Ok (judged_line u a) ≡ answer_line some all u x
  judged_answer-line (Ok y) r judged a is = let same : answer_map (judged_value some all) y ≡ a = cc in ap (λ (z : Answer (JudgedValue ℕ)). Ok (judged_line u z)) (sym same) ∙ judged_line-is y
  judged_answer-line (Err e) r judged a is = absurd (cc)

  pub judged_refusal-line : (x : Result (Answer ℕ) Refusal) (r : Result (Answer (JudgedValue ℕ)) Refusal) → r ≡ result_as (answer_map (judged_value some all)) x
      → (e : Refusal) → r ≡ Err e → Err (Refused e) ≡ answer_line some all u x
  judged_refusal-line (Ok y) r judged e is = absurd (cc)
  judged_refusal-line (Err f) r judged e is = let same : f ≡ e = cc in ap (λ (z : Refusal). Err (Refused z)) (sym same)
