-- Happened-before, and immediate predecessors.
use Rattle.std.specs.Prelude.{◌≡◌, ℕ, ◌<◌, ◌⊎◌, Some}
use Rattle.history.specs.Events.{Events, Stands}
use Rattle.history.specs.declared.calls.Event.TheVariants.{Receive, Send}
use Rattle.history.specs.Marks.{IsMark}

-- The event at position i of unit u is before the one at position j of unit v: it came earlier on the same unit, or is the send of the
-- other's receipt, or a chain of such steps leads to the other.
pub data Before (ev : Events) : ℕ → ℕ → ℕ → ℕ → Type 0 where
  earlier : {u i v j : ℕ} → u ≡ v → i < j → Stands ev u i → Stands ev v j → Before ev u i v j
  message : {u i v j : ℕ} (m : ℕ) → ev u i ≡ Some (Send m) → ev v j ≡ Some (Receive m) → Before ev u i v j
  chain : {u i v j : ℕ} (w k : ℕ) → Before ev u i w k → Before ev w k v j → Before ev u i v j

-- both are the same position
abbrev pub Here : ℕ → ℕ → ℕ → ℕ → Type 0
Here u i v j = (u ≡ v) × (i ≡ j)

-- the event at position i of unit u is the one at position j of unit v, or before it
abbrev pub AtOrBefore : Events → ℕ → ℕ → ℕ → ℕ → Type 0
AtOrBefore ev u i v j = Here u i v j ⊎ Before ev u i v j

-- The mark at position i of unit u is an immediate predecessor of the mark at position j of unit v: it is before it, and no mark lies
-- between them.
abbrev pub Immediate : Events → ℕ → ℕ → ℕ → ℕ → Type 0
Immediate ev u i v j =
    IsMark ev u i × IsMark ev v j × Before ev u i v j × ((w k : ℕ) → IsMark ev w k → Before ev u i w k → Before ev w k v j → ⊥)

-- No mark is before the mark at position i of unit u.
abbrev pub First : Events → ℕ → ℕ → Type 0
First ev u i = IsMark ev u i × ((v j : ℕ) → IsMark ev v j → Before ev v j u i → ⊥)
