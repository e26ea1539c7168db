-- What is known once a call's questions are answered.
use Rattle.std.proofs.Common.{◌≡◌, ℕ, ◌+◌, ◌*◌, ◌<◌, ◌≤◌, true, length, arith}
use Rattle.std.proofs.lemmas.Bool.Decides.{nat_tests}
use Rattle.grid.specs.declared.Grid.{Grid}
use Rattle.grid.specs.Grids.{has_row}
use Rattle.grid.proofs.Promises.{row_within}
use Rattle.causality.specs.Boards.{Memory, has_all_rows, has_room}
use Rattle.causality.specs.Calls.{Room, Ready}

pub room_of : {X : Type 0} (n k : ℕ) (g : Grid X) → has_all_rows n k g ≡ true → Room n k g
room_of n k g e = record { width = grind (arith, nat_tests); cells = grind (arith, nat_tests) }

-- every row of the board lies within the cells
pub room_row : {X : Type 0} {n k : ℕ} {g : Grid X} → Room n k g → (t : ℕ) → t < n + k → t * n + n ≤ length g.cells.now
room_row {n = n} {k = k} r t h = omega (arith, r.cells, row_within t (n + k) n h)

-- each of its rows is there
pub room_there : {X : Type 0} {n k : ℕ} {g : Grid X} → Room n k g → (t : ℕ) → t < n + k → has_row g t ≡ true
room_there {g = g} r t h = let inside = room_row r t h in let w = r.width in grind (arith, nat_tests)

module _ {V : Type 0} (n k : ℕ) (a : Memory V) (u : ℕ) where
  pub ready : has_room n k a ≡ true → u < n → Ready n k a u
  ready e h = record {
    room = e;
    clocks = room_of n k a.clocks (grind (arith, nat_tests));
    flags = room_of n k a.flags (grind (arith, nat_tests));
    values = room_of n k a.values (grind (arith, nat_tests));
    posts = grind (arith, nat_tests);
    unit = h;
  }
