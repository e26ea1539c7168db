use Rattle.std.proofs.Common.{rules, ◌≡◌, ◌+◌, ℕ, Some, Err, replicate, sym, arith, ◌∙◌, ap, ap₂}
use Rattle.std.proofs.lemmas.List.{length-replicate}
use Rattle.history.specs.Messages.{unsent}
use Rattle.history.specs.declared.refusals.Refusal.{Refusal}
use Rattle.history.specs.Limits.{most_messages}
use Rattle.history.specs.Board.{new_contents}
use Rattle.causality.specs.Boards.{make_refusal, has_room, memory}
use Rattle.measures.specs.Worths.{measured_payload}
use Rattle.reports.specs.Commands.{making_size}
use Rattle.reports.specs.declared.commands.Command.TheVariants.{Make}
use Rattle.reports.specs.declared.faults.RecordingFault.{RecordingFault}
use Rattle.reports.specs.Faults.{fault_at}
use Rattle.reports.proofs.FirstCommandFacts.{length-making}
use Rattle.reports.proofs.MakingFacts.{made_by_size, board_refused, board_made, made_with}
use Rattle.reports.proofs.ResultFacts.{result_with_place-ok, result_with_place-err, match_result-ok, match_result-err, result_with_reason-ok, result_with_reason-err, first_command-ok}
use Rattle.reports.proofs.recordings.transcribe.Goals as goal

pub returns-in_err-board-clause-tells : goal.returns-in_err-board-clause-tells
returns-in_err-board-clause-tells g c =
    let a = c.args in
    let n = c.from-units.result in
    let k = c.from-messages.result in
    let size : Make c.in-Make.units c.in-Make.messages ≡ Make n k = ap₂ (λ (u v : ℕ). Make u v) (sym c.from-units.ensures) (sym c.from-messages.ensures) in
    let first = first_command-ok a.bytes.now a.place c.first_command.result c.first_command.ensures c.with_place.ensures c.in_ok-command.was (c.in-Make.is ∙ size) in
    let room = has_room n k (memory c.new-clocks.result c.new-flags.result c.new-values.result (replicate most_messages unsent)) in
    let by_size = made_by_size n k (omega arith) c.new-clocks.result c.new-flags.result c.new-values.result (replicate most_messages unsent)
    c.new-clocks.ensures.width c.new-flags.ensures.width c.new-values.ensures.width (search rules) (search rules) (search rules) (length-replicate most_messages unsent) in
    let (none, at) = result_with_place-err a.place c.with_reason.result c.with_place-2.ensures c.in_err-board.was in
    let (e, refused, why) = result_with_reason-err c.make-made.result c.with_reason.ensures none in
    let allowed = match_result-err _ (λ (d : Refusal). make_refusal n k room ≡ Some d) c.make-made.result c.make-made.ensures.board e refused in
    let passed_on : c.from_residual-in_err-board.result ≡ Err c.in_err-board.field-0.0 = search rules in
    board_refused (g.J.Measure.meaning a.judge) (g.J.Judge.some_of a.judge) (g.J.Judge.all_of a.judge) a.place a.bytes.now c.in_ok-command.rest.now n k first e (sym by_size ∙ allowed)
    a.page.now.text _ (passed_on ∙ ap (λ (f : RecordingFault). Err f) (at ∙ ap (λ q. fault_at q a.place) why))

pub returns-clause-tells : goal.returns-clause-tells
returns-clause-tells g c =
    let a = c.args in
    let rest = c.in_ok-command.rest.now in
    let n = c.from-units.result in
    let k = c.from-messages.result in
    let old = a.page.now.text in
    let new = c.follow.new.page.text in
    let board = c.in_ok-board.board in
    let size : Make c.in-Make.units c.in-Make.messages ≡ Make n k = ap₂ (λ (u v : ℕ). Make u v) (sym c.from-units.ensures) (sym c.from-messages.ensures) in
    let first = first_command-ok a.bytes.now a.place c.first_command.result c.first_command.ensures c.with_place.ensures c.in_ok-command.was (c.in-Make.is ∙ size) in
    let by_size = made_by_size n k (omega arith) c.new-clocks.result c.new-flags.result c.new-values.result (replicate most_messages unsent)
    c.new-clocks.ensures.width c.new-flags.ensures.width c.new-values.ensures.width (search rules) (search rules) (search rules) (length-replicate most_messages unsent) in
    let made = result_with_reason-ok c.make-made.result c.with_reason.ensures (result_with_place-ok a.place c.with_reason.result c.with_place-2.ensures c.in_ok-board.was) in
    let (allowed, is) = match_result-ok _ _ c.make-made.result c.make-made.ensures.board board made in
    board_made (g.J.Measure.meaning a.judge) (g.J.Judge.some_of a.judge) (g.J.Judge.all_of a.judge) a.place a.bytes.now rest n k first (sym by_size ∙ allowed) old new c.follow.result
    (made_with g.J.Measure.meaning g.J.Judge.some_of g.J.Judge.all_of a.judge board.payload.measure (ap (λ p. p.measure) is.payload_is) n board.units is.units_are k board.messages is.messages_are
    (memory c.make-made.new.clocks c.make-made.new.flags c.make-made.new.values c.make-made.new.posts) old new (a.place + making_size) rest c.follow.result c.follow.ensures.tells
    (new_contents (measured_payload (g.J.Measure.meaning a.judge) n)) (c.make-made.ensures.begins.makes.contents allowed))

pub returns-clause-long : goal.returns-clause-long
returns-clause-long g c =
    let a = c.args in
    let first = first_command-ok a.bytes.now a.place c.first_command.result c.first_command.ensures c.with_place.ensures c.in_ok-command.was c.in-Make.is in
    let size = length-making a.bytes.now _ _ _ first in
    let long = c.follow.ensures.long in
    omega arith

pub overflow_add-place : goal.overflow_add-place
overflow_add-place g c =
    let a = c.args in
    let first = first_command-ok a.bytes.now a.place c.first_command.result c.first_command.ensures c.with_place.ensures c.in_ok-command.was c.in-Make.is in
    let size = length-making a.bytes.now _ _ _ first in
    let room = c.requires.places in
    omega arith

pub follow-requires-clause-places : goal.follow-requires-clause-places
follow-requires-clause-places g c =
    let a = c.args in
    let first = first_command-ok a.bytes.now a.place c.first_command.result c.first_command.ensures c.with_place.ensures c.in_ok-command.was c.in-Make.is in
    let size = length-making a.bytes.now _ _ _ first in
    let room = c.requires.places in
    omega arith

pub follow-requires-clause-space : goal.follow-requires-clause-space
follow-requires-clause-space g c =
    let a = c.args in
    let first = first_command-ok a.bytes.now a.place c.first_command.result c.first_command.ensures c.with_place.ensures c.in_ok-command.was c.in-Make.is in
    let size = length-making a.bytes.now _ _ _ first in
    let room = c.requires.space in
    omega arith
