-- Rows of n cells, one after another.
use Rattle.std.specs.Prelude.{◌≡◌, ℕ, ◌+◌, ◌*◌, ◌<◌, ◌≤◌, Bool, ◌⊎◌, List, length, map, take, drop, nat_le, slice_index_or}
use Rattle.std.proofs.Math.Seq.{paste}
use Rattle.std.specs.List.{range_with_len}

-- the n cells of row r
abbrev pub row : {X : Type 0} → List X → ℕ → ℕ → List X
row xs n r = take n (drop (r * n) xs)

-- xs with the first n cells of ys in row r
abbrev pub with_row : {X : Type 0} → List X → ℕ → ℕ → List X → List X
with_row xs n r ys = paste xs (r * n) ys n

-- whether all of row r lies within len cells
abbrev pub row_inside : ℕ → ℕ → ℕ → Bool
row_inside len n r = nat_le (r * n + n) len

-- the n cells f 0, f 1, ..
abbrev pub cells_by : {X : Type 0} → (ℕ → X) → ℕ → List X
cells_by f n = map f (range_with_len 0 n)

-- Row t of n cells holds g 0, g 1, .., and every other cell is as it was; d is read past the end.
pub record RowIs {X : Type 0} (n t : ℕ) (d : X) (g : ℕ → X) (old new : List X) : Type 0 where
  pub same_length : length new ≡ length old
  pub here : (j : ℕ) → j < n → slice_index_or new (t * n + j) d ≡ g j
  pub outside : (i : ℕ) → (i < t * n) ⊎ (t * n + n ≤ i) → slice_index_or new i d ≡ slice_index_or old i d
