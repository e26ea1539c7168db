-- Grids: the rows that they have, what their calls answer and write, and what no call changes.
use Rattle.std.specs.Prelude.{◌≡◌, ℕ, ◌+◌, ◌*◌, ◌≤◌, Bool, ◌&&◌, if◌then◌else◌, List, ◌++◌, length, replicate, drop, Option, None, nat_lt, nat_le, slice_get}
use Rattle.std.proofs.Math.Seq.{paste}
use Rattle.grid.specs.declared.Grid.{Grid}
use Rattle.grid.specs.declared.RowPair.{RowPair}
use Rattle.grid.specs.Rows.{row, with_row, row_inside, cells_by}

module _ {T : Type 0} (g : Grid T) where
  -- whether all of row r lies within the cells of the grid
  abbrev pub has_row : ℕ → Bool
  has_row r = row_inside (length g.cells.now) g.width r

  -- whether it has both rows
  abbrev pub has_rows : ℕ → ℕ → Bool
  has_rows from to = has_row from && has_row to

  -- whether the first rows lie within the cells
  abbrev pub has_first_rows : ℕ → Bool
  has_first_rows rows = nat_le (rows * g.width) (length g.cells.now)

  -- the cells of row r
  abbrev pub row_in : ℕ → List T
  row_in r = row g.cells.now g.width r

  -- cell j of row r, or none where the row or the column is not there
  abbrev pub cell_answer : ℕ → ℕ → Option T
  cell_answer r j = if has_row r && nat_lt j g.width then slice_get g.cells.now (r * g.width + j) else None

  -- the cells with v in each of the first rows, or as they are where those rows are not there
  abbrev pub with_first_rows : ℕ → T → List T
  with_first_rows rows v =
      if has_first_rows rows then replicate (rows * g.width) v ++ drop (rows * g.width) g.cells.now else g.cells.now

  -- the cells with a copy of one row in another, or as they are where a row is not there
  abbrev pub with_row_copy : ℕ → ℕ → List T
  with_row_copy from to = if has_rows from to then with_row g.cells.now g.width to (row_in from) else g.cells.now

-- both rows lie within so many cells
pub record LieWithin (rows : RowPair) (cells : ℕ) : Type 0 where
  pub from : rows.from * rows.width + rows.width ≤ cells
  pub to : rows.to * rows.width + rows.width ≤ cells

-- xs with f 0, f 1, .. in the first k cells of the row that is written
abbrev pub with_cells : {X : Type 0} → List X → RowPair → (ℕ → X) → ℕ → List X
with_cells xs rows f k = paste xs (rows.to * rows.width) (cells_by f rows.width) k

-- The grid is as wide as before, and its cells are lent by the same lender; what they hold may have changed.
pub record SameLoan {T : Type 0} (old new : Grid T) : Type 0 where
  pub width : new.width ≡ old.width
  pub lender : new.cells.ghost_name ≡ old.cells.ghost_name
