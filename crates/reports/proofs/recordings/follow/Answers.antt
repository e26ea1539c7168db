-- The loop of follow. At each command the invariant `Reached` holds of the rest; a call that is accepted keeps it (`accepts`), with or without a
-- line, and every other way out of the loop is one of `missing`, `second`, `refuses` and `closes`. Sizes: a call takes three bytes of the rest, and
-- a line no more text than these have room for.
use Rattle.std.proofs.Common.{rules, ◌≡◌, ℕ, ◌+◌, ◌-◌, ◌++◌, List, length, Option, Err, Ok, Some, None, sym, refl, arith, ◌∙◌, ap, append-nil}
use Rattle.causality.specs.Boards.{memory}
use Rattle.measures.proofs.Promises.{room_kept}
use Rattle.reports.specs.Commands.{call_size}
use Rattle.reports.specs.declared.faults.RecordingFault.{RecordingFault}
use Rattle.reports.specs.declared.lines.MarkLine.{MarkLine}
use Rattle.reports.specs.Lines.{mark_text}
use Rattle.text.specs.Lines.{line_of}
use Rattle.reports.proofs.FirstCommandFacts.{length-call}
use Rattle.reports.proofs.ResultFacts.{result_with_place-ok, result_with_place-err, first_command-ok, first_command-err}
use Rattle.reports.proofs.StepFacts.{closes, missing, second, refuses, accepts}
use Rattle.reports.proofs.recordings.follow.Goals as goal

pub returns-in_err-command-clause-tells : goal.returns-in_err-command-clause-tells
returns-in_err-command-clause-tells g c s shows =
    let l = c.loop-command in
    let place = c.args.from + (length c.args.bytes.now - length l.rest.now) in
    let (none, at) = first_command-err l.rest.now place c.first_command.result c.first_command.ensures c.with_place.ensures c.in_err-command.was in
    let passed_on : c.from_residual.result ≡ Err c.in_err-command.field-0.0 = search rules in
    missing (l.invariant.reached s shows) _ none _ (passed_on ∙ ap (λ (f : RecordingFault). Err f) at)

pub returns-in_err-line-in-Call-clause-tells : goal.returns-in_err-line-in-Call-clause-tells
returns-in_err-line-in-Call-clause-tells g c s shows =
    let l = c.loop-command in
    let place = c.args.from + (length c.args.bytes.now - length l.rest.now) in
    let first = first_command-ok l.rest.now place c.first_command.result c.first_command.ensures c.with_place.ensures c.in_ok-command.was c.in-Call.is in
    let h = c.hand_for_line-line in
    let new = memory h.new.clocks h.new.flags h.new.values h.new.posts in
    let (x, obeys, said) = h.ensures in
    let (refused, at) = result_with_place-err place h.result c.with_place-in-Call.ensures c.in_err-line-in-Call.was in
    let passed_on : c.from_residual-in_err-line-in-Call.result ≡ Err c.in_err-line-in-Call.field-0.0 = search rules in
    refuses (l.invariant.reached s shows) first l.invariant.room {new = new} obeys said _ refused _ (passed_on ∙ ap (λ (f : RecordingFault). Err f) at)

pub returns-in-End-clause-tells : goal.returns-in-End-clause-tells
returns-in-End-clause-tells g c s shows =
    let l = c.loop-command in
    let place = c.args.from + (length c.args.bytes.now - length l.rest.now) in
    let first = first_command-ok l.rest.now place c.first_command.result c.first_command.ensures c.with_place.ensures c.in_ok-command.was c.in-End.is in
    closes (l.invariant.reached s shows) first _ c.close.ensures

pub returns-in-Make-clause-tells : goal.returns-in-Make-clause-tells
returns-in-Make-clause-tells g c s shows =
    let l = c.loop-command in
    let place = c.args.from + (length c.args.bytes.now - length l.rest.now) in
    let first = first_command-ok l.rest.now place c.first_command.result c.first_command.ensures c.with_place.ensures c.in_ok-command.was c.in-Make.is in
    second (l.invariant.reached s shows) first _ refl

pub loop-command-preserved-in-Some : goal.loop-command-preserved-in-Some
loop-command-preserved-in-Some g c =
    let a = c.args in
    let l = c.loop-command in
    let place = a.from + (length a.bytes.now - length l.rest.now) in
    let h = c.hand_for_line-line in
    let first = first_command-ok l.rest.now place c.first_command.result c.first_command.ensures c.with_place.ensures c.in_ok-command.was c.in-Call.is in
    let new = memory h.new.clocks h.new.flags h.new.values h.new.posts in
    let (x, obeys, said) = h.ensures in
    let accepted = result_with_place-ok place h.result c.with_place-in-Call.ensures c.in_ok-line-in-Call.was in
    let size = length-call l.rest.now _ _ first in
    let i = l.invariant in
    let next : a.from + (length a.bytes.now - length c.in_ok-command.after.now) ≡ place + call_size = omega (arith, size, i.places) in
    let w = c.push_mark.ensures in
    record {
      room = room_kept (g.J.Measure.meaning a.board.now.payload.measure).start a.board.now.units a.board.now.messages (memory l.clocks l.flags l.values l.posts) (memory h.new.clocks h.new.flags h.new.values h.new.posts) obeys.loans obeys.follows.beyond i.room;
      reached = λ s shows.
          rw next (accepts (i.reached s shows) first i.room {new = new} obeys said
          (Some c.in-Some.line) (accepted ∙ ap (λ (o : Option MarkLine). Ok o) c.in-Some.is) c.push_mark.new.page.text
          (w.text ∙ ap (λ (t : List ℕ). l.page.text ++ t) (sym (append-nil (line_of (mark_text c.in-Some.line))))));
      places = let so_far = i.places in omega arith;
      long = let so_far = i.long in let line = w.long in omega arith;
      space = let so_far = i.space in let here = w.room in omega arith;
    }

pub loop-command-preserved : goal.loop-command-preserved
loop-command-preserved g c =
    let a = c.args in
    let l = c.loop-command in
    let place = a.from + (length a.bytes.now - length l.rest.now) in
    let h = c.hand_for_line-line in
    let first = first_command-ok l.rest.now place c.first_command.result c.first_command.ensures c.with_place.ensures c.in_ok-command.was c.in-Call.is in
    let new = memory h.new.clocks h.new.flags h.new.values h.new.posts in
    let (x, obeys, said) = h.ensures in
    let accepted = result_with_place-ok place h.result c.with_place-in-Call.ensures c.in_ok-line-in-Call.was in
    let size = length-call l.rest.now _ _ first in
    let i = l.invariant in
    let next : a.from + (length a.bytes.now - length c.in_ok-command.after.now) ≡ place + call_size = omega (arith, size, i.places) in
    record {
      room = room_kept (g.J.Measure.meaning a.board.now.payload.measure).start a.board.now.units a.board.now.messages (memory l.clocks l.flags l.values l.posts) (memory h.new.clocks h.new.flags h.new.values h.new.posts) obeys.loans obeys.follows.beyond i.room;
      reached = λ s shows.
          rw next (accepts (i.reached s shows) first i.room {new = new} obeys said
          None (accepted ∙ ap (λ (o : Option MarkLine). Ok o) c.in_default.is) l.page.text (sym (append-nil l.page.text)));
      places = let so_far = i.places in omega arith;
      long = let so_far = i.long in omega arith;
      space = i.space;
    }
