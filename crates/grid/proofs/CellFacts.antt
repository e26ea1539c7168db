-- Places of cells, and rows that are written cell by cell.
use Rattle.std.proofs.Common.{◌≡◌, ℕ, ◌+◌, ◌-◌, ◌*◌, ◌<◌, ◌≤◌, ◌⊎◌, List, length, get_or, take, drop, set, sym, ap, ◌∙◌, inl, inr, mul-le-mul_right, suc-mul, arith, length-drop, length-take, rules}
use lib.Seq.{paste}
use borrow.Rule.Slice.PartMut.{put_mid, put_same, set_mid_at}
use Rattle.std.proofs.lemmas.List.{places, set_past}
use Rattle.std.proofs.lemmas.List.FromFn.{length-map-range_with_len, get_or-map-range_with_len}
use Rattle.std.proofs.lemmas.Bool.{cases_lt}
use Rattle.std.proofs.lemmas.List.Edits.{paste_more}
use Rattle.grid.specs.declared.RowPair.{RowPair}
use Rattle.grid.specs.Grids.{LieWithin, with_cells}
use Rattle.grid.specs.Rows.{row, cells_by}

-- a row below h rows lies within them
pub row_within : (r h n : ℕ) → r < h → r * n + n ≤ h * n
row_within r h n l = omega (arith, mul-le-mul_right n l, suc-mul r n)

-- cell j of row a lies before row b, or past the first j cells of it
apart : (a b n j : ℕ) → j < n → (a * n + j < b * n) ⊎ (b * n + j ≤ a * n + j)
apart a b n j h =
    elim (cases_lt a b) [
      | inl l ↦ inl (omega (arith, row_within a b n l))
      | inr g ↦ inr (omega (arith, mul-le-mul_right n g))
    ]

-- a write to cell j of the part that begins at a
pub put_at : {X : Type 0} (a j : ℕ) (xs ys : List X) (v : X) → a ≤ length xs → ys ≡ set (take (length xs - a) (drop a xs)) j v → put_mid a (length xs - a) xs ys ≡ set xs (a + j) v
put_at a j xs ys v h e =
    ap (put_mid a (length xs - a) xs) e
    ∙ elim (cases_lt (a + j) (length xs)) [
      | inl l ↦ set_mid_at a (length xs - a) j xs v (simp (length-take, length-drop) (omega arith))
      | inr g ↦
          ap (put_mid a (length xs - a) xs) (set_past (take (length xs - a) (drop a xs)) j v (simp (length-take, length-drop) (omega arith)))
          ∙ put_same a (length xs - a) xs
          ∙ sym (set_past xs (a + j) v g)
    ]

-- what the writes have not reached is as it was
pub untouched : {X : Type 0} (xs ys : List X) (at i k : ℕ) (d : X) → at + i ≤ length xs → i ≤ length ys → (k < at) ⊎ (at + i ≤ k) → get_or (paste xs at ys i) k d ≡ get_or xs k d
untouched xs ys at i k d h l (inl below) = search (rules, places)
untouched xs ys at i k d h l (inr above) = grind (arith, places)

-- a copy of one row to another, one cell more
pub copied_more : {X : Type 0} (rows : RowPair) (xs cells : List X) (j : ℕ) (v : X) → LieWithin rows (length xs) → j < rows.width
    → cells ≡ paste xs (rows.to * rows.width) (row xs rows.width rows.from) j → v ≡ get_or cells (rows.from * rows.width + j) v
    → set cells (rows.to * rows.width + j) v ≡ paste xs (rows.to * rows.width) (row xs rows.width rows.from) (j + 1)
copied_more rows xs cells j v inside hj e read =
    let n = rows.width in
    let ys = row xs n rows.from in
    let len : length ys ≡ n = simp (length-take, length-drop) (omega (arith, inside.from)) in
    let was : v ≡ get_or xs (rows.from * n + j) v =
    read ∙ ap (λ zs. get_or zs (rows.from * n + j) v) e
    ∙ untouched xs ys (rows.to * n) j (rows.from * n + j) v (omega (arith, inside.to)) (omega arith) (apart rows.from rows.to n j hj) in
    let cell : get_or ys j v ≡ get_or xs (rows.from * n + j) v = search (rules, places) in
    ap (λ zs. set zs (rows.to * n + j) v) e
    ∙ ap (set (paste xs (rows.to * n) ys j) (rows.to * n + j)) (was ∙ sym cell)
    ∙ paste_more xs (rows.to * n) ys j v (omega (arith, inside.to)) (omega arith)

-- A loop over columns that has written f 0, f 1, .. to the first j cells of a row.
module _ {X : Type 0} (rows : RowPair) (xs cells : List X) (f : ℕ → X) (j : ℕ) (inside : LieWithin rows (length xs)) (hj : j < rows.width) (e : cells ≡ with_cells xs rows f j) where
  -- one cell more
  pub column_written : (v : X) → v ≡ f j → set cells (rows.to * rows.width + j) v ≡ with_cells xs rows f (j + 1)
  column_written v is =
      let len = length-map-range_with_len f 0 rows.width in
      ap (λ zs. set zs (rows.to * rows.width + j) v) e
      ∙ ap (set (with_cells xs rows f j) (rows.to * rows.width + j)) (is ∙ sym (get_or-map-range_with_len f 0 rows.width j j v hj (omega arith)))
      ∙ paste_more xs (rows.to * rows.width) (cells_by f rows.width) j v (omega arith) (omega arith)

  -- cell j of any row is as it was
  pub column_kept : (r : ℕ) (d : X) → get_or cells (r * rows.width + j) d ≡ get_or xs (r * rows.width + j) d
  column_kept r d =
      let len = length-map-range_with_len f 0 rows.width in
      ap (λ zs. get_or zs (r * rows.width + j) d) e
      ∙ untouched xs (cells_by f rows.width) (rows.to * rows.width) j (r * rows.width + j) d (omega arith) (omega arith) (apart r rows.to rows.width j hj)
