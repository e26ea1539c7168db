use Rattle.std.proofs.Common.{◌*◌, ◌∙◌, arith}
use Rattle.grid.proofs.CellFacts.{put_at, copied_more}
use Rattle.grid.proofs.copy.Goals as goal

pub loop-j-preserved : goal.loop-j-preserved
loop-j-preserved g c =
    let rows = c.args.rows in
    let v = c.index-cells-rows.result in
    put_at (rows.to * rows.width) c.loop-j.j c.loop-j.cells _ v (omega (arith, c.requires.to)) c.put.ensures
    ∙ copied_more rows c.args.cells.now c.loop-j.cells c.loop-j.j v c.requires (omega arith) c.loop-j.invariant c.index-cells-rows.is
