use Rattle.std.proofs.Common.{arith}
use Rattle.causality.proofs.MergeFacts.{clocks_more, flags_more, values_more}
use Rattle.causality.proofs.merging.merge_rows.Goals as goal

pub loop-j-preserved : goal.loop-j-preserved
loop-j-preserved g c =
    let a = c.args in
    let l = c.loop-j in
    let i = l.invariant in
    let m = c.merge_column.ensures in
    record {
      clocks = clocks_more a.start a.clocks.now a.flags.now a.values.now a.rows _ _ _ l.j c.requires.clocks c.requires.flags c.requires.values (omega arith) i.clocks i.flags i.values _ m.clocks;
      flags = flags_more a.start a.clocks.now a.flags.now a.values.now a.rows _ _ _ l.j c.requires.clocks c.requires.flags c.requires.values (omega arith) i.clocks i.flags i.values _ m.flags;
      values = values_more a.start a.clocks.now a.flags.now a.values.now a.rows _ _ _ l.j c.requires.clocks c.requires.flags c.requires.values (omega arith) i.clocks i.flags i.values _ m.values;
    }
