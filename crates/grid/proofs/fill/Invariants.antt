use Rattle.std.proofs.Common.{◌≡◌, replicate, take}
use Rattle.grid.proofs.fill.Given as goal

-- the first cells of the part are set
abbrev pub invariant-loop-cell : goal.invariant-loop-cell
invariant-loop-cell g l = take l.cell-index l.part ≡ replicate l.cell-index l.v
