-- Marks, and how many of them a unit has made.
use Rattle.std.specs.Prelude.{◌≡◌, ℕ, zero, suc, ◌+◌, Some, None, Option}
use Rattle.history.specs.Events.{Events}
use Rattle.history.specs.declared.calls.Event.TheVariants.{Mark, Receive, Send}
use Rattle.history.specs.declared.calls.Event.{Event}

-- a mark stands at position i of unit u
abbrev pub IsMark : Events → ℕ → ℕ → Type 0
IsMark ev u i = (l : ℕ) × (ev u i ≡ Some (Mark l))

-- 1 for a mark, 0 for anything else
abbrev pub tick : Option Event → ℕ
tick None = 0
tick (Some (Send m)) = 0
tick (Some (Receive m)) = 0
tick (Some (Mark l)) = 1

-- the number of marks among the first k events of unit u
abbrev pub marks : Events → ℕ → ℕ → ℕ
marks ev u zero = 0
marks ev u (suc k) = marks ev u k + tick (ev u k)
