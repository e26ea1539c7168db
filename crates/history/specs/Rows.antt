-- The rules for rows of cells. A cell tells of one unit: the clock is the number of its marks that are known, the flag says whether the last of
-- these is an immediate predecessor of what comes next.
use Rattle.std.specs.Prelude.{ℕ, suc, Bool, true, false, if◌then◌else◌, ◌&&◌, ◌==◌, nat_lt}
use Rattle.history.specs.declared.cells.Cell.{Cell}

-- What cells carry beside clock and flag: a start, and what a mark gets from its unit's row, its unit and its label. A board
-- without measures carries nothing.
pub record Payload (V : Type 0) : Type 0 where
  pub start : V
  pub make : (ℕ → Cell V) → ℕ → ℕ → V

-- cells that carry nothing
abbrev pub nothing : Payload (Unit {0})
nothing = record { start = tt; make = λ r u l. tt }

-- f, but x at u
abbrev pub put : {A : Type 0} → (ℕ → A) → ℕ → A → ℕ → A
put f u x j = if j == u then x else f j

-- whether b knows a mark that a does not
abbrev pub news : {V : Type 0} → Cell V → Cell V → Bool
news a b = nat_lt a.clock b.clock

module _ {V : Type 0} (start : V) where
  -- A new row: clocks 0, flags no, values start.
  abbrev pub new_row : ℕ → Cell V
  new_row j = record { clock = 0; flag = false; value = start }

  -- at equal clocks the flag is yes only if both are, and where it is no the value becomes start
  abbrev pub even_cell : Cell V → Cell V → Cell V
  even_cell a b = record { clock = a.clock; flag = a.flag && b.flag; value = if a.flag && b.flag then a.value else start }

  -- A unit's cell a merged with a message's cell b: the one with the larger clock, or what equal clocks give.
  abbrev pub merged_cell : Cell V → Cell V → Cell V
  merged_cell a b = if news a b then b else (if news b a then a else even_cell a b)

  -- a unit's row a merged with a message's row b, cell by cell
  abbrev pub merge_row : (ℕ → Cell V) → (ℕ → Cell V) → ℕ → Cell V
  merge_row a b j = merged_cell (a j) (b j)

-- A row after its unit u made a mark with label l: the own clock grows by 1, only the own flag is yes, the own value
-- is what the mark makes, and all other values are start.
abbrev pub mark_row : {V : Type 0} → Payload V → ℕ → ℕ → (ℕ → Cell V) → ℕ → Cell V
mark_row M u l r j =
    if j == u
    then record { clock = suc (r j).clock; flag = true; value = M.make r u l }
    else record { clock = (r j).clock; flag = false; value = M.start }
