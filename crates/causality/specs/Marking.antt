-- What a mark writes into its unit's row, and what it answers.
use Rattle.std.specs.Prelude.{◌≡◌, ℕ, ◌+◌, ◌*◌, Bool, true, false, if◌then◌else◌, ◌==◌, slice_index_or}
use Rattle.bitset.specs.Sets.{those}
use Rattle.grid.specs.declared.Grid.{Grid}
use Rattle.grid.specs.Grids.{SameLoan}
use Rattle.grid.specs.Rows.{row, RowIs}
use Rattle.history.specs.declared.calls.Marked.{Marked}
use Rattle.history.specs.declared.cells.Cell.{Cell}
use Rattle.causality.specs.Boards.{Setup}
use Rattle.causality.specs.Payloads.{Reads}

-- A mark of unit u with label l wrote its unit's row, in grids of clocks (c), flags (f) and values (v), on a board of that setup: into the unit's own
-- cell its clock, a flag and its value; the other clocks stay, the other flags are no, and the other values the start. No other cell changed, and the
-- grids are lent back. Its predecessors are the flagged units of the row as it was, and its value is what the payload makes of that row.
pub record WritesMark {V : Type 0} (b : Setup V) (u l : ℕ) (c c' : Grid ℕ) (f f' : Grid Bool) (v v' : Grid V)
    (mark : Marked V) : Type 0 where
  pub clocks : RowIs b.units u 0
      (λ j. if j == u then mark.clock else slice_index_or c.cells.now (u * b.units + j) 0) c.cells.now c'.cells.now
  pub flags : RowIs b.units u false (λ j. if j == u then true else false) f.cells.now f'.cells.now
  pub values : RowIs b.units u b.rules.start
      (λ j. if j == u then mark.value else b.rules.start) v.cells.now v'.cells.now
  pub predecessors : mark.predecessors ≡ those (λ j. slice_index_or f.cells.now (u * b.units + j) false) b.units
  pub value : (r : ℕ → Cell V) → Reads b.rules.start b.units r mark.predecessors (row v.cells.now b.units u)
      → mark.value ≡ b.rules.make b.units r u l
  pub loans : SameLoan c c' × SameLoan f f' × SameLoan v v'
