-- What units do, and where it stands in their logs.
use Rattle.std.specs.Prelude.{◌≡◌, ℕ, List, Some, Option}
use Rattle.std.specs.List.{slice_get}
use Rattle.history.specs.declared.calls.Event.{Event}
use Rattle.history.specs.declared.calls.Event.TheVariants.{Send, Receive}

-- Each unit's own events, the oldest first.
abbrev pub Logs : Type 0
Logs = ℕ → List Event

-- Which event stands at which position: a unit, and the number of its events that are older.
abbrev pub Events : Type 0
Events = ℕ → ℕ → Option Event

-- A position in the logs: a unit, and the number of its events that are older.
abbrev pub Position : Type 0
Position = ℕ × ℕ

-- what stands at position i of unit u
abbrev pub at : {A : Type 0} → (ℕ → List A) → ℕ → ℕ → Option A
at logs u i = slice_get (logs u) i

-- an event stands at position i of unit u
abbrev pub Stands : Events → ℕ → ℕ → Type 0
Stands ev u i = (e : Event) × (ev u i ≡ Some e)

-- message m was sent
abbrev pub IsSent : Events → ℕ → Type 0
IsSent ev m = (u i : ℕ) × (ev u i ≡ Some (Send m))

-- message m was received
abbrev pub IsReceived : Events → ℕ → Type 0
IsReceived ev m = (u i : ℕ) × (ev u i ≡ Some (Receive m))
