use Rattle.std.proofs.Common.{set, ◌≡◌, ◌+◌, Err, take, subst, sym, arith}
use Rattle.history.specs.declared.calls.Call.{Call}
use Rattle.history.specs.declared.calls.Event.TheVariants.{Send}
use Rattle.history.specs.declared.refusals.Refusal.TheVariants.{MemoryTooShort}
use Rattle.causality.specs.Boards.{memory, payload_of, setup_of}
use Rattle.measures.specs.Boards.{Played}
use Rattle.measures.proofs.BoardLaw.{played_more}
use Rattle.measures.proofs.PlayFacts.{beyond_twice, loans_twice, set_below, room_kept}
use Rattle.measures.proofs.replays.play.Goals as goal

pub loop-i-preserved : goal.loop-i-preserved
loop-i-preserved g c =
    let a = c.args in
    let m = g.M.Measure.meaning (payload_of a.board.now).measure in
    let b = setup_of a.board.now in
    let l = c.loop-i in
    let inv = l.invariant in
    let now = memory l.clocks l.flags l.values l.posts in
    let after = memory c.hand-answer.new.clocks c.hand-answer.new.flags c.hand-answer.new.values c.hand-answer.new.posts in
    let room = room_kept m.start b.units b.messages (memory a.clocks.now a.flags.now a.values.now a.posts.now) now inv.loans inv.beyond c.requires.room in
    let h = c.hand-answer.ensures in
    let put : c.put.new.part ≡ set l.answers l.i c.hand-answer.result = assumption c.put.ensures in
    let first : Call = record { unit = 0; event = Send 0 } in
    record {
      played = subst (λ zs. Played m b.units b.messages (take (l.i + 1) a.calls.now) (take (l.i + 1) zs) after)
          (sym put)
          (played_more m b.units b.messages a.calls.now l.answers l.i first c.hand-answer.result (omega arith) (omega arith) now _ inv.played h room);
      beyond = beyond_twice inv.beyond h.follows.beyond;
      rest = set_below (Err MemoryTooShort) c.min-count.result l.i _ _ _ _ c.loop-i-test.true inv.rest put;
      loans = loans_twice inv.loans h.loans;
    }

pub returns-clause-played : goal.returns-clause-played
returns-clause-played g c =
    let a = c.args in
    let m = g.M.Measure.meaning (payload_of a.board.now).measure in
    let b = setup_of a.board.now in
    let l = c.loop-i in
    let inv = l.invariant in
    let all : l.i ≡ c.min-count.result = omega arith in
    record {
      count_is = c.min-count.ensures;
      played = subst (λ i. Played m b.units b.messages (take i a.calls.now) (take i l.answers) (memory l.clocks l.flags l.values l.posts)) all inv.played;
      beyond = inv.beyond;
      rest = inv.rest;
    }
