use Rattle.std.proofs.Common.{take, Err}
use Rattle.history.specs.declared.refusals.Refusal.TheVariants.{MemoryTooShort}
use Rattle.causality.specs.Boards.{SameBeyond, SameFrom, SameLoans, memory, payload_of, setup_of}
use Rattle.measures.specs.Boards.{Played}
use Rattle.measures.proofs.replays.play.Given as goal

-- the calls so far have their answers, and nothing else was written
abbrev pub invariant-loop-i : goal.invariant-loop-i
invariant-loop-i g l =
    let m = g.M.Measure.meaning (payload_of l.board).measure in
    let b = setup_of l.board in
    record {
      played : Played m b.units b.messages (take l.i l.calls) (take l.i l.answers) (memory l.clocks l.flags l.values l.posts);
      beyond : SameBeyond m.start b.units b.messages (memory l.initial.clocks l.initial.flags l.initial.values l.initial.posts) (memory l.clocks l.flags l.values l.posts);
      rest : SameFrom (Err MemoryTooShort) l.count l.initial.answers l.answers;
      loans : SameLoans (memory l.initial.clocks l.initial.flags l.initial.values l.initial.posts) (memory l.clocks l.flags l.values l.posts);
    }
