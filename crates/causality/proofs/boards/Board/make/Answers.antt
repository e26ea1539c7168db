use Rattle.std.proofs.Common.{◌≡◌, sym, ◌+◌, ◌*◌, false, true, ap, ◌∙◌, subst, arith}
use Rattle.history.specs.Messages.{unsent}
use Rattle.causality.specs.Boards.{has_room, memory}
use Rattle.causality.proofs.RoomFacts.{ready}
use Rattle.causality.proofs.MakeFacts.{Filled, made, make_taken, filled_rows, filled_front}
use Rattle.causality.proofs.boards.Board.make.Goals as goal

pub returns-clause-begins : goal.returns-clause-begins
returns-clause-begins g c =
    let a = c.args in
    let rules = g.P.Payload.rules a.payload in
    let n = a.units in
    let k = a.messages in
    let old = memory a.clocks.now a.flags.now a.values.now a.posts.now in
    let made_is = c.in_ok-board.ensures.1 in
    let yes : c.has_room.result ≡ true = search rules in
    let room : has_room n k old ≡ true = rw (sym made_is.units_are, sym made_is.messages_are) (sym c.has_room.ensures.room ∙ yes) in
    let r = ready n k old 0 room (omega (arith, c.in_ok-board.board.some_units, c.in_ok-board.ensures.1.units_are)) in
    record {
      makes = made rules n k old _ (make_taken n k _ c.in_ok-board.ensures.0 room)
          (filled_rows r.clocks 0 0 _ c.fill_rows.ensures.cells)
          (filled_rows r.flags false false _ c.fill_rows-2.ensures.cells)
          (subst (λ v. Filled ((n + k) * n) v rules.start a.values.now.cells.now c.fill_rows-3.new.self.cells.now)
          (c.start.ensures ∙ ap (λ p. (g.P.Payload.rules p).start) c.in_ok-board.ensures.1.payload_is)
          (filled_rows r.values c.start.result rules.start _ c.fill_rows-3.ensures.cells))
          (filled_front k unsent unsent a.posts.now _ r.posts (assumption c.begin_posts.ensures));
      loans = search rules;
    }
