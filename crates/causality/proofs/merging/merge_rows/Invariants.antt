use Rattle.causality.proofs.MergeFacts.{Merged}
use Rattle.causality.proofs.merging.merge_rows.Given as goal

-- the first j cells of row `to` are merged
abbrev pub invariant-loop-j : goal.invariant-loop-j
invariant-loop-j g l =
    let a = l.initial in
    record {
      clocks : Merged l.start a.clocks a.flags a.values l.rows (λ c. c.clock) a.clocks l.clocks l.j;
      flags : Merged l.start a.clocks a.flags a.values l.rows (λ c. c.flag) a.flags l.flags l.j;
      values : Merged l.start a.clocks a.flags a.values l.rows (λ c. c.value) a.values l.values l.j;
    }
