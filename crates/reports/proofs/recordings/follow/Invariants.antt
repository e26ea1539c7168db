use Rattle.std.proofs.Common.{◌≡◌, ℕ, ◌+◌, ◌-◌, ◌*◌, ◌≤◌, true, length}
use Rattle.history.specs.Board.{Contents}
use Rattle.causality.specs.Boards.{Shows, has_room, memory}
use Rattle.reports.specs.declared.lines.TheConstants.{TEXT_PER_BYTE}
use Rattle.reports.proofs.StepFacts.{Reached}
use Rattle.reports.proofs.recordings.follow.Given as goal

-- the calls so far are handed over, their lines are written, and the rest is what they leave
abbrev pub invariant-loop-command : goal.invariant-loop-command
invariant-loop-command g l =
    let m = g.J.Measure.meaning l.board.payload.measure in
    let some = g.J.Judge.some_of l.board.payload.measure in
    let all = g.J.Judge.all_of l.board.payload.measure in
    let n = l.board.units in
    let k = l.board.messages in
    record {
      room : has_room n k (memory l.clocks l.flags l.values l.posts) ≡ true;
      reached : (s : Contents ℕ) → Shows m.start n k (memory l.initial.clocks l.initial.flags l.initial.values l.initial.posts) s
          → Reached m some all n k s l.from l.bytes l.initial.page.text (memory l.clocks l.flags l.values l.posts) l.page.text (l.from + (length l.bytes - length l.rest)) l.rest;
      places : length l.rest ≤ length l.bytes;
      long : length l.page.text + TEXT_PER_BYTE * length l.rest ≤ length l.initial.page.text + TEXT_PER_BYTE * length l.bytes;
      space : l.initial.page.room ≤ l.page.room;
    }

-- each call takes bytes of the rest
abbrev pub decreases-loop-command : goal.decreases-loop-command
decreases-loop-command g l = length l.rest
