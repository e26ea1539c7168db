-- Rows merged cell by cell.
use Rattle.std.proofs.Common.{◌≡◌, ℕ, ◌+◌, ◌*◌, ◌<◌, Bool, false, List, length, set, ap, ◌∙◌, ap₂}
use Rattle.grid.specs.declared.RowPair.{RowPair}
use Rattle.grid.specs.Grids.{LieWithin, with_cells}
use Rattle.grid.proofs.Promises.{column_kept, column_written}
use Rattle.history.specs.Rows.{merged_cell}
use Rattle.history.specs.declared.cells.Cell.{Cell}
use Rattle.causality.specs.Merging.{merged_row}

-- cells are equal by their parts
pub cell_same : {V : Type 0} {a b : Cell V} → a.clock ≡ b.clock → a.flag ≡ b.flag → a.value ≡ b.value → a ≡ b
cell_same {V} e f g = ap₂ (λ x (y : Bool × V). let c : Cell V = record { clock = x; flag = y.0; value = y.1 } in c) e (ap₂ (λ y z. let w : Bool × V = (y, z) in w) f g)

-- The first j cells of a part of row `to` are merged.
module _ {V : Type 0} (start : V) (cs : List ℕ) (fs : List Bool) (vs : List V) (rows : RowPair) where
  abbrev pub Merged : {X : Type 0} → (Cell V → X) → List X → List X → ℕ → Type 0
  Merged part old new j = new ≡ with_cells old rows (λ i. part (merged_row start cs fs vs rows i)) j

  -- A loop over columns that has merged the first j cells of row `to`.
  module _ (cs' : List ℕ) (fs' : List Bool) (vs' : List V) (j : ℕ)
      (in_cs : LieWithin rows (length cs)) (in_fs : LieWithin rows (length fs)) (in_vs : LieWithin rows (length vs)) (hj : j < rows.width)
      (e : Merged (λ c. c.clock) cs cs' j) (f : Merged (λ c. c.flag) fs fs' j) (g : Merged (λ c. c.value) vs vs' j) where
    -- cell j is merged from the rows as they were
    column_merged : merged_row start cs' fs' vs' rows j ≡ merged_row start cs fs vs rows j
    column_merged =
        let same = λ (r : ℕ). cell_same (column_kept rows cs cs' _ j in_cs hj e r 0) (column_kept rows fs fs' _ j in_fs hj f r false) (column_kept rows vs vs' _ j in_vs hj g r start) in
        ap₂ (merged_cell start) (same rows.to) (same rows.from)

    -- one cell more
    pub clocks_more : (ys : List ℕ) → ys ≡ set cs' (rows.to * rows.width + j) (merged_row start cs' fs' vs' rows j).clock → Merged (λ c. c.clock) cs ys (j + 1)
    clocks_more ys is = is ∙ column_written rows cs cs' _ j in_cs hj e _ (ap (λ (y : Cell V). y.clock) column_merged)

    pub flags_more : (ys : List Bool) → ys ≡ set fs' (rows.to * rows.width + j) (merged_row start cs' fs' vs' rows j).flag → Merged (λ c. c.flag) fs ys (j + 1)
    flags_more ys is = is ∙ column_written rows fs fs' _ j in_fs hj f _ (ap (λ (y : Cell V). y.flag) column_merged)

    pub values_more : (ys : List V) → ys ≡ set vs' (rows.to * rows.width + j) (merged_row start cs' fs' vs' rows j).value → Merged (λ c. c.value) vs ys (j + 1)
    values_more ys is = is ∙ column_written rows vs vs' _ j in_vs hj g _ (ap (λ (y : Cell V). y.value) column_merged)
