use Rattle.std.proofs.Common.{rules, ◌≡◌, Err, Ok, ap, ◌∙◌}
use Rattle.reports.specs.declared.faults.Reason.TheVariants.{Refused}
use Rattle.reports.proofs.AnswerFacts.{judged_answer-line, judged_refusal-line}
use Rattle.reports.proofs.recordings.hand_for_line.Goals as goal

pub returns-in_err-answer : goal.returns-in_err-answer
returns-in_err-answer g c =
    let h = c.hand_judged.ensures in
    let e = c.in_err-answer.field-0.0 in
    let was : c.hand_judged.result ≡ Err e = search rules in
    let is : c.from_residual.result ≡ Err (Refused e) = search rules in
    (h.answer, h.obeys, is ∙ judged_refusal-line _ _ c.args.call.unit h.answer c.hand_judged.result h.judged e was)

pub returns : goal.returns
returns g c =
    let h = c.hand_judged.ensures in
    let a = c.in_ok-answer.answer in
    let was : c.hand_judged.result ≡ Ok a = search rules in
    (h.answer, h.obeys, ap (λ o. Ok o) c.line_of_answer.ensures ∙ judged_answer-line _ _ c.args.call.unit h.answer c.hand_judged.result h.judged a was)
