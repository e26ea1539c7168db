use Rattle.history.proofs.AcceptanceFacts.{accepted_are_runs}
use Rattle.history.proofs.AnswerFacts.{marks_answered, messages_answered}
use Rattle.history.proofs.PayloadFacts.{payload_free}
use Rattle.history.proofs.StampOrderFacts.{stamps_decide}
use Rattle.history.proofs.OrderFacts.{runs_order_free}
use Rattle.history.proofs.OutcomeFacts.{replies_are_answers}
use Rattle.history.proofs.laws.law_of_runs.Goals as goal

pub returns : goal.returns
returns g c = record { marks = marks_answered _; messages = messages_answered _; outcomes = replies_are_answers _; order = runs_order_free _; accepted = accepted_are_runs _; stamps = stamps_decide; payload = payload_free _ _ }
