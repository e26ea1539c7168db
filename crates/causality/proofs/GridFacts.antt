-- What the calls of a grid write, where the grid has room for a board.
use Rattle.std.proofs.Common.{◌≡◌, ℕ, ◌+◌, ◌*◌, ◌<◌, Bool, true, cond, eqb, List, get_or, length, take, drop, replicate, set, subst, refl, sym, ap, ◌∙◌, inl, inr, if◌then◌else◌, length-take, length-drop, length-set, arith}
use Rattle.std.proofs.lemmas.Bool.{cases_eq, eq-eqb, ne_eqb}
use Rattle.std.proofs.lemmas.Grind.{get_or-set_at}
use Rattle.std.proofs.lemmas.List.{get_or-replicate, get_or-set_other, length-replicate}
use Rattle.std.proofs.lemmas.Slice.{put_mid-paste}
use borrow.Rule.Slice.PartMut.{put_mid}
use Rattle.grid.specs.declared.Grid.{Grid}
use Rattle.grid.specs.declared.RowPair.{RowPair}
use Rattle.grid.specs.Grids.{has_rows, with_cells, LieWithin}
use Rattle.grid.specs.Rows.{row, with_row, RowIs}
use Rattle.grid.proofs.Promises.{cell_set, copied_row, row_same, function_row, twice, written_row}
use Rattle.history.specs.declared.cells.Cell.{Cell}
use Rattle.causality.specs.Merging.{merged_row}
use Rattle.causality.proofs.RoomFacts.{room_row, room_there}
use Rattle.causality.specs.Calls.{Room}

-- both rows are there
pub rows_there : {X : Type 0} {n k : ℕ} {g : Grid X} → Room n k g → (a b : ℕ) → a < n + k → b < n + k → has_rows g a b ≡ true
rows_there {g = g} r a b ha hb = rw (room_there r a ha, room_there r b hb) refl

module _ {X : Type 0} {n k : ℕ} {g : Grid X} (r : Room n k g) (d : X) (new : List X) where
  pub copied : (from to : ℕ) → from < n + k → to < n + k
      → new ≡ (if has_rows g from to then with_row g.cells.now g.width to (row g.cells.now g.width from) else g.cells.now) → RowIs n to d (λ j. get_or g.cells.now (from * n + j) d) g.cells.now new
  copied from to hf ht is =
      copied_row n to d g.cells.now (room_row r to ht) from new (room_row r from hf)
      (is ∙ rw (rows_there r from to hf ht) (ap (λ (w : ℕ). with_row g.cells.now w to (row g.cells.now w from)) r.width))

-- A row of the board that was written as a part of the cells, of n cells and from u * n on.
module _ {X : Type 0} {n k : ℕ} {g : Grid X} (r : Room n k g) (d : X) (u size : ℕ) (there : u < n + k) (whole : size ≡ n) where
  -- from a list
  part_row : (ys zs : List X) → ys ≡ zs → length zs ≡ n → RowIs n u d (λ j. get_or zs j d) g.cells.now (put_mid (u * n) size g.cells.now ys)
  part_row ys zs is long =
      subst (λ (new : List X). RowIs n u d (λ j. get_or zs j d) g.cells.now new)
      (sym (put_mid-paste (u * n) size g.cells.now ys zs n is (sym whole) (sym long)))
      (written_row n u d g.cells.now (room_row r u there) zs (omega arith))

  part_length : length (take size (drop (u * n) g.cells.now)) ≡ n
  part_length = let inside = room_row r u there in simp (length-take, length-drop) (omega arith)

  -- one value throughout, and then another in cell u
  pub filled_then_set : (v w : X) (ys new : List X) → u < n → ys ≡ replicate (length (take size (drop (u * n) g.cells.now))) v
      → new ≡ set (put_mid (u * n) size g.cells.now ys) (u * n + u) w → RowIs n u d (λ j. cond (eqb j u) w v) g.cells.now new
  filled_then_set v w ys new own is after =
      let mid = put_mid (u * n) size g.cells.now ys in
      let a : RowIs n u d (λ j. v) g.cells.now mid =
      row_same (part_row ys (replicate n v) (is ∙ ap (λ (m : ℕ). replicate m v) part_length) (length-replicate n v)) (λ j. v) (λ j h. get_or-replicate n j v d h) in
      let b = cell_set n u d mid (omega (arith, room_row r u there, a.same_length)) u w new own after in
      twice a (row_same b (λ j. cond (eqb j u) w v) (λ j h. ap (cond (eqb j u) w) (a.here j h)))

  -- one value in cell u, and another elsewhere
  pub reset_row_is : (v w : X) (ys : List X) → u < n → ys ≡ set (replicate (length (take size (drop (u * n) g.cells.now))) v) u w
      → RowIs n u d (λ j. cond (eqb j u) w v) g.cells.now (put_mid (u * n) size g.cells.now ys)
  reset_row_is v w ys own is =
      row_same
      (part_row ys (set (replicate n v) u w) (is ∙ ap (λ (m : ℕ). set (replicate m v) u w) part_length) (length-set (replicate n v) u w ∙ length-replicate n v))
      (λ j. cond (eqb j u) w v)
      (λ j h. elim (cases_eq j u) [
        | inl e ↦ rw (eq-eqb j u e) (get_or-set_at (replicate n v) u j w d e (omega (arith, length-replicate n v)))
        | inr o ↦ rw (ne_eqb j u o) (get_or-set_other (replicate n v) u j w d (λ i. o (omega arith)) ∙ get_or-replicate n j v d h)
      ])

-- a row of the board that a merge wrote, with the start
pub row_merged : {V X : Type 0} {n k : ℕ} {g : Grid X} → Room n k g → (d : X) (start first : V) → first ≡ start → (cs : List ℕ) (fs : List Bool) (vs : List V) (rows : RowPair) (part : Cell V → X) (new : List X)
    → rows.width ≡ n → rows.to < n + k → new ≡ with_cells g.cells.now rows (λ j. part (merged_row first cs fs vs rows j)) rows.width
    → RowIs n rows.to d (λ j. part (merged_row start cs fs vs rows j)) g.cells.now new
row_merged {n = n} {g = g} r d start first starts cs fs vs rows part new e h is =
    let given : new ≡ with_cells g.cells.now rows (λ j. part (merged_row start cs fs vs rows j)) rows.width = is ∙ ap (λ v. with_cells g.cells.now rows (λ j. part (merged_row v cs fs vs rows j)) rows.width) starts in
    subst (λ (w : ℕ). RowIs w rows.to d (λ j. part (merged_row start cs fs vs rows j)) g.cells.now new) e
    (function_row rows.width rows.to d g.cells.now (rw e (room_row r rows.to h)) (λ j. part (merged_row start cs fs vs rows j)) new given)

-- the rows of a merge lie within a grid of the board
pub rows_within : {X : Type 0} {n k : ℕ} {g : Grid X} → Room n k g → (from to : ℕ) → from < n + k → to < n + k → LieWithin (record { width = n; from = from; to = to }) (length g.cells.now)
rows_within r from to hf ht = record { from = room_row r from hf; to = room_row r to ht }
