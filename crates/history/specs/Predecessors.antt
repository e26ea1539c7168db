-- What a unit's row shows of the immediate predecessors of the unit's next mark.
use Rattle.std.specs.Prelude.{◌≡◌, ℕ, true}
use Rattle.history.specs.declared.cells.Cell.{Cell}
use Rattle.history.specs.Events.{Events}
use Rattle.history.specs.HappenedBefore.{Before, Immediate}
use Rattle.history.specs.Marks.{IsMark}

-- The row r of unit u, just before the mark at position i, shows the immediate predecessors of this mark with right values, where
-- W v j x says that x is a right value for the mark at position j of unit v.
pub record ShowsPredecessors {V : Type 0} (ev : Events) (W : ℕ → ℕ → V → Type 0) (u i : ℕ) (r : ℕ → Cell V) : Type 0 where
  -- a flagged cell has a right value for an immediate predecessor of its unit
  pub flagged : (v : ℕ) → (r v).flag ≡ true → (j : ℕ) × Immediate ev v j u i × W v j (r v).value
  -- the cell of each unit that has an immediate predecessor is flagged
  pub known : (v j : ℕ) → Immediate ev v j u i → (r v).flag ≡ true
  -- a unit has one immediate predecessor at most
  pub single : (v p q : ℕ) → Immediate ev v p u i → Immediate ev v q u i → p ≡ q
  -- if any mark is before this one, it has an immediate predecessor
  pub reached : (v p : ℕ) → IsMark ev v p → Before ev v p u i → (w q : ℕ) × Immediate ev w q u i
