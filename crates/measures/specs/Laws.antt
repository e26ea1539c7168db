-- The law over runs under a measure: what is true of every list of calls handed to a new board.
use Rattle.std.specs.Prelude.{◌≡◌, ℕ, Bool, List, ◌∷◌, map, Some, ◌↔◌, IsTrue}
use Rattle.history.specs.Counting.{Exactly}
use Rattle.history.specs.Events.{Events, Position}
use Rattle.history.specs.declared.calls.Event.TheVariants.{Mark}
use Rattle.history.specs.Flows.{Longest, word}
use Rattle.history.specs.Board.{accepted_calls}
use Rattle.history.specs.Runs.{SameByUnit}
use Rattle.history.specs.declared.calls.Call.{Call}
use Rattle.history.specs.Laws.{run_events, Answered, OrderFree}
use Rattle.measures.specs.Words.{Word}
use Rattle.measures.specs.Measures.{Meaning, word_value, join_of}
use Rattle.measures.specs.Worths.{measured_payload, measured_size}

-- the join, over a non-empty list of flows, of the values of their words
abbrev pub join_over : {V : Type 0} → Meaning V → Events → List Position → List (List Position) → V
join_over m ev f fs = join_of m (word_value m (word ev f)) (map (λ g. word_value m (word ev g)) fs)

-- The events that a run of a board of n units and k messages accepted under a measure.
abbrev pub accepted_events : {V : Type 0} → Meaning V → (n k limit : ℕ) → List Call → Events
accepted_events m n k limit cs = run_events (measured_payload m n) (measured_size m n k limit) cs

-- What the accepted mark at position i of unit u was answered; its value is the join of the measure along the longest flows that end there.
pub record Valued {V : Type 0} (m : Meaning V) (n k limit : ℕ) (cs : List Call) (u i : ℕ) : Type 0 where
  pub answered : Answered (measured_payload m n) (measured_size m n k limit) cs u i
  -- a list of all longest flows that end there, each once, and no other
  pub flow : List Position
  pub flows : List (List Position)
  pub all : Exactly (Longest (accepted_events m n k limit cs) u i) (flow ∷ flows)
  pub value_is : answered.value ≡ join_over m (accepted_events m n k limit cs) flow flows
  -- and any other such list has the same join
  pub value_any : (f : List Position) (fs : List (List Position))
      → Exactly (Longest (accepted_events m n k limit cs) u i) (f ∷ fs)
      → answered.value ≡ join_over m (accepted_events m n k limit cs) f fs

-- Each accepted mark's value is the join of the measure along the longest flows that end there, each taken exactly once.
abbrev pub MarksValued : {V : Type 0} → Meaning V → Type 0
MarksValued m =
    (n k limit : ℕ) (cs : List Call) (u i l : ℕ) → accepted_events m n k limit cs u i ≡ Some (Mark l) → Valued m n k limit cs u i

-- The law of runs under a measure: what marks are answered, and that nothing depends on the order in which units act.
pub record LawOfRuns {V : Type 0} (m : Meaning V) : Type 0 where
  pub marks_valued : MarksValued m
  pub order_free : (n k limit : ℕ) (cs ds : List Call)
      → SameByUnit (accepted_calls (measured_payload m n) (measured_size m n k limit) cs)
      (accepted_calls (measured_payload m n) (measured_size m n k limit) ds)
      → OrderFree (measured_payload m n) (measured_size m n k limit) cs ds

-- What two answers of a judge say of the longest flows that end at position i of unit u: some is yes exactly when one of them is
-- good, all exactly when each is.
pub record TellsOfFlows (good : Word → Type 0) (some all : Bool) (ev : Events) (u i : ℕ) : Type 0 where
  pub some_flow : IsTrue some ↔ ((f : List Position) × Longest ev u i f × good (word ev f))
  pub all_flows : IsTrue all ↔ ((f : List Position) → Longest ev u i f → good (word ev f))

-- P is true, in every run, of each accepted mark (the events, its unit and position) and of the value that it was answered.
abbrev pub AtMarks : {V : Type 0} → Meaning V → (Events → ℕ → ℕ → V → Type 0) → Type 0
AtMarks m P =
    (n k limit : ℕ) (cs : List Call) (u i l : ℕ) → accepted_events m n k limit cs u i ≡ Some (Mark l)
    → (v : Valued m n k limit cs u i) × P (accepted_events m n k limit cs) u i v.answered.value

-- Of each accepted mark's value a judge says whether some, and whether all, of the longest flows that end there are good.
abbrev pub MarksJudged : {V : Type 0} → Meaning V → (V → Bool) → (V → Bool) → (Word → Type 0) → Type 0
MarksJudged m some all good = AtMarks m (λ ev u i v. TellsOfFlows good (some v) (all v) ev u i)
