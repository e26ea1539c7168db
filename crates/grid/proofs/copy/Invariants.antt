use Rattle.std.proofs.Common.{◌≡◌, ◌*◌}
use Rattle.std.proofs.Math.Seq.{paste}
use Rattle.grid.specs.Rows.{row}
use Rattle.grid.proofs.copy.Given as goal

abbrev pub invariant-loop-j : goal.invariant-loop-j
invariant-loop-j g l = l.cells ≡ paste l.initial.cells (l.rows.to * l.rows.width) (row l.initial.cells l.rows.width l.rows.from) l.j
