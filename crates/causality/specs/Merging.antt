-- Cells of rows in memories of clocks, flags and values, and one row merged into another.
use Rattle.std.specs.Prelude.{ℕ, ◌+◌, ◌*◌, Bool, false, List, slice_index, slice_index_or}
use Rattle.grid.specs.declared.RowPair.{RowPair}
use Rattle.history.specs.Rows.{merge_row}
use Rattle.history.specs.declared.cells.Cell.{Cell}

-- the cell at a place; past the end of the values it carries `start`
abbrev pub cell_at : {V : Type 0} → V → List ℕ → List Bool → List V → ℕ → Cell V
cell_at start clocks flags values place =
    record {
      clock = slice_index clocks place;
      flag = slice_index_or flags place false;
      value = slice_index_or values place start;
    }

-- row r of n cells
abbrev pub cells : {V : Type 0} → V → List ℕ → List Bool → List V → ℕ → ℕ → ℕ → Cell V
cells start clocks flags values n r j = cell_at start clocks flags values (r * n + j)

-- the cells of row `to`, once those of row `from` are merged into them
abbrev pub merged_row : {V : Type 0} → V → List ℕ → List Bool → List V → RowPair → ℕ → Cell V
merged_row start clocks flags values rows =
    merge_row start
    (cells start clocks flags values rows.width rows.to)
    (cells start clocks flags values rows.width rows.from)
