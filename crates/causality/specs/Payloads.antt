-- What the cells of a board carry beside clocks and flags.
use Rattle.std.specs.Prelude.{◌≡◌, ℕ, ◌^◌, ◌<◌, Bool, true, List, slice_index_or}
use Rattle.bitset.specs.Sets.{has}
use Rattle.history.specs.declared.cells.Cell.{Cell}
use Rattle.history.specs.Limits.{most_marks}
use Rattle.history.specs.Rows.{Payload}
use Rattle.history.specs.Runs.{Size}

-- What cells carry, on boards of any number of units: a start; what a mark makes on a board of so many units, from its unit's row, its unit and
-- its label; and which labels a unit may use.
pub record PayloadRules (V : Type 0) : Type 0 where
  pub start : V
  pub make : ℕ → (ℕ → Cell V) → ℕ → ℕ → V
  pub fits : ℕ → ℕ → Bool

-- Cells that carry nothing; every label may be used.
abbrev pub bare : PayloadRules (Unit {0})
bare = record { start = tt; make = λ n r u l. tt; fits = λ u l. true }

module _ {V : Type 0} (rules : PayloadRules V) where
  -- what the cells of a board of n units carry
  abbrev pub payload_on : ℕ → Payload V
  payload_on n = record { start = rules.start; make = rules.make n }

  -- the size of a board of n units and k messages
  abbrev pub size_on : ℕ → ℕ → Size
  size_on n k = record { units = n; messages = k; fits = rules.fits; limit = most_marks }

-- The row r of n cells has the flags that a set says, and these values.
pub record Reads {V : Type 0} (start : V) (n : ℕ) (r : ℕ → Cell V) (set : ℕ) (values : List V) : Type 0 where
  pub below : set < 2 ^ n
  pub flags : (j : ℕ) → j < n → has set j ≡ (r j).flag
  pub cells : (j : ℕ) → j < n → slice_index_or values j start ≡ (r j).value
