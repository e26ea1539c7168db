-- Calls, the size of a board, and what a real run can do, by the events alone.
use Rattle.std.specs.Prelude.{◌≡◌, ℕ, ◌<◌, Bool, true, if◌then◌else◌, List, [], ◌∷◌, ◌++◌, length, Some, ◌==◌}
use Rattle.history.specs.declared.calls.Call.{Call}
use Rattle.history.specs.Events.{Events, Logs, at, IsSent, IsReceived}
use Rattle.history.specs.declared.calls.Event.TheVariants.{Mark, Receive, Send}
use Rattle.history.specs.declared.calls.Event.{Event}
use Rattle.history.specs.Marks.{marks}
use Rattle.history.specs.Rows.{put}

-- The size of a board: its units and messages, which unit may mark with which label, and how many marks a unit can make.
pub record Size : Type 0 where
  pub units : ℕ
  pub messages : ℕ
  pub fits : ℕ → ℕ → Bool
  pub limit : ℕ

-- Marks are made by units of the board, with labels that they may mark with.
pub record Ranged (ev : Events) (z : Size) : Type 0 where
  pub unit : (v p l : ℕ) → ev v p ≡ Some (Mark l) → v < z.units
  pub label : (v p l : ℕ) → ev v p ≡ Some (Mark l) → z.fits v l ≡ true

-- a call of unit u
abbrev pub call : ℕ → Event → Call
call u e = record { unit = u; event = e }

-- no unit has done anything
abbrev pub silence : {A : Type 0} → ℕ → List A
silence u = []

-- the logs with one more entry of unit u
abbrev pub with_entry : {A : Type 0} → (ℕ → List A) → ℕ → A → ℕ → List A
with_entry logs u x = put logs u (logs u ++ x ∷ [])

-- What can come next in a run that has come to these logs: a send of a message not yet sent, a receipt of one on its way, a mark
-- within the limits.
abbrev pub Possible : Size → Logs → ℕ → Event → Type 0
Possible z logs u (Send m) = (u < z.units) × (m < z.messages) × (IsSent (at logs) m → ⊥)
Possible z logs u (Receive m) = (u < z.units) × (m < z.messages) × IsSent (at logs) m × (IsReceived (at logs) m → ⊥)
Possible z logs u (Mark l) = (u < z.units) × (z.fits u l ≡ true) × (marks (at logs) u (length (logs u)) < z.limit)

-- each call is possible after those before it
abbrev pub Continues : Size → Logs → List Call → Type 0
Continues z logs [] = Unit {0}
Continues z logs (c ∷ cs) = Possible z logs c.unit c.event × Continues z (with_entry logs c.unit c.event) cs

-- The calls are a run: each is possible after those before it.
abbrev pub Run : Size → List Call → Type 0
Run z cs = Continues z silence cs

-- each unit's own events in a list of calls, in the order handed in
abbrev pub by_unit : List Call → Logs
by_unit [] u = []
by_unit (c ∷ cs) u = if u == c.unit then c.event ∷ by_unit cs u else by_unit cs u

-- what happened in a list of calls
abbrev pub events_in : List Call → Events
events_in cs = at (by_unit cs)

-- Two lists of calls are the same unit by unit if each unit's events in them are equal one by one, message numbers and labels included.
abbrev pub SameByUnit : List Call → List Call → Type 0
SameByUnit cs ds = (u : ℕ) → by_unit cs u ≡ by_unit ds u
