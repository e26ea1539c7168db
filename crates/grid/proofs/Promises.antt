-- What other crates may cite of grids. A line's file has the theorem and its proof.

-- A row below h rows lies within them.
pub use Rattle.grid.proofs.CellFacts.{row_within}
-- A write to cell j of the part that begins at a is one to cell a + j of the whole.
pub use Rattle.grid.proofs.CellFacts.{put_at}
-- Once the next column is written, one cell more of the row holds what it should.
pub use Rattle.grid.proofs.CellFacts.{column_written}
-- Until then that column is as it was in every row.
pub use Rattle.grid.proofs.CellFacts.{column_kept}
-- A row that is written from a list holds its elements.
pub use Rattle.grid.proofs.RowFacts.{written_row}
-- A row that is written from the values of a function holds these.
pub use Rattle.grid.proofs.RowFacts.{function_row}
-- A row that is copied holds what the other row held.
pub use Rattle.grid.proofs.RowFacts.{copied_row}
-- A row one of whose cells is set holds that value there, and else what it held.
pub use Rattle.grid.proofs.RowFacts.{cell_set}
-- A row that is written twice holds what the second time left.
pub use Rattle.grid.proofs.RowFacts.{twice}
-- What a row holds may be said by any function with the same values.
pub use Rattle.grid.proofs.RowFacts.{row_same}
-- The cells of another row are as they were.
pub use Rattle.grid.proofs.RowFacts.{other_row}
