-- The law over runs: what is true of every list of calls handed to a new board. Of measures it says nothing.
use Rattle.std.specs.Prelude.{◌≡◌, ℕ, suc, ◌↔◌, if◌then◌else◌, List, [], ◌∷◌, ◌++◌, map, Some, None, Ok, Err, Result, ◌==◌}
use Rattle.bitset.specs.Sets.{Member}
use Rattle.history.specs.declared.precedence.Precedence.{Precedence}
use Rattle.history.specs.declared.refusals.Refusal.{Refusal}
use Rattle.history.specs.declared.calls.Answer.TheVariants.{Sent, Received}
use Rattle.history.specs.Events.{Events, at}
use Rattle.history.specs.declared.calls.Event.TheVariants.{Mark, Receive, Send}
use Rattle.history.specs.declared.calls.Event.{Event}
use Rattle.history.specs.Marks.{IsMark, marks}
use Rattle.history.specs.HappenedBefore.{Immediate}
use Rattle.history.specs.Stamps.{Stamp}
use Rattle.history.specs.Messages.{Stated}
use Rattle.history.specs.Rows.{Payload}
use Rattle.history.specs.Runs.{Size, Possible, Run, by_unit, events_in, SameByUnit}
use Rattle.history.specs.declared.calls.Call.{Call}
use Rattle.history.specs.Board.{Contents, History, Reply, mark_answer, refusal, next_contents, outcome, outcomes, run, accepted_calls}
use Rattle.history.specs.declared.calls.Answer.{Answer}
use Rattle.history.specs.Precedence.{Ordered, stamp_order}

-- The events that a run accepted.
abbrev pub run_events : {V : Type 0} → Payload V → Size → List Call → Events
run_events M z cs = at (run M z cs).log

-- What the accepted mark at position i of unit u was answered, in terms of the events.
pub record Answered {V : Type 0} (M : Payload V) (z : Size) (cs : List Call) (u i : ℕ) : Type 0 where
  pub clock : ℕ
  pub predecessors : ℕ
  pub value : V
  pub stamp : ℕ → ℕ
  pub reply_is : at (run M z cs).replies u i ≡ Some (record { answer = mark_answer clock predecessors value; stamp = stamp })
  -- the clock is the mark's own number among its unit's marks, from 1
  pub clock_is : clock ≡ marks (run_events M z cs) u (suc i)
  -- the predecessors are exactly the units of its immediate predecessors
  pub predecessors_are : (v : ℕ) → Member v predecessors ↔ ((j : ℕ) × Immediate (run_events M z cs) v j u i)
  -- the unit's clocks just after it are its stamp
  pub stamp_is : Stamp (run_events M z cs) u i stamp

-- Each accepted mark was answered its own number and the units of its immediate predecessors.
abbrev pub MarksAnswered : Type 0 → Type 0
MarksAnswered V =
    (M : Payload V) (z : Size) (cs : List Call) (u i l : ℕ) → run_events M z cs u i ≡ Some (Mark l) → Answered M z cs u i

-- What a send or a receipt at position i of unit u is answered, in terms of the events: the number of its unit's marks so far.
abbrev pub MessageAnswered : {V : Type 0} → Events → ℕ → ℕ → Event → Answer V → Type 0
MessageAnswered ev u i (Send m) a = a ≡ Sent (marks ev u i)
MessageAnswered ev u i (Receive m) a = a ≡ Received (marks ev u i)
MessageAnswered ev u i (Mark l) a = Unit {0}

-- Each accepted send or receipt was answered so.
abbrev pub MessagesAnswered : Type 0 → Type 0
MessagesAnswered V =
    (M : Payload V) (z : Size) (cs : List Call) (u i : ℕ) (e : Event) → run_events M z cs u i ≡ Some e
    → (r : Reply V) × (at (run M z cs).replies u i ≡ Some r) × MessageAnswered (run_events M z cs) u i e r.answer

-- the answers to the accepted calls of unit u, from the outcomes of a list of calls
abbrev pub answers_of : {V : Type 0} → ℕ → List Call → List (Result (Answer V) Refusal) → List (Answer V)
answers_of u [] os = []
answers_of u (c ∷ cs) [] = []
answers_of u (c ∷ cs) (Ok a ∷ os) = if u == c.unit then a ∷ answers_of u cs os else answers_of u cs os
answers_of u (c ∷ cs) (Err e ∷ os) = answers_of u cs os

-- The replies that each unit got are the answers to its accepted calls, in the order handed in.
abbrev pub RepliesAreAnswers : Type 0 → Type 0
RepliesAreAnswers V =
    (M : Payload V) (z : Size) (cs : List Call) (u : ℕ)
    → map (λ r. r.answer) ((run M z cs).replies u) ≡ answers_of u cs (outcomes M z cs)

-- Two histories agree: all rows of units and of messages are equal, what became of the messages, and each unit's replies.
pub record SameHistory {V : Type 0} (g h : History V) : Type 0 where
  pub rows : (u j : ℕ) → g.contents.rows u j ≡ h.contents.rows u j
  pub message_rows : (m j : ℕ) → g.contents.message_rows m j ≡ h.contents.message_rows m j
  pub posts : (m : ℕ) → g.contents.posts m ≡ h.contents.posts m
  pub replies : (u j : ℕ) → at g.replies u j ≡ at h.replies u j

-- Two lists whose accepted calls are the same unit by unit got the same answer to each unit's j-th accepted call and stand
-- alike; and any one more call, the same for both, is answered alike and leaves them alike.
pub record OrderFree {V : Type 0} (M : Payload V) (z : Size) (cs ds : List Call) : Type 0 where
  pub answers : (u : ℕ) → answers_of u cs (outcomes M z cs) ≡ answers_of u ds (outcomes M z ds)
  pub alike : SameHistory (run M z cs) (run M z ds)
  pub one_more : (c : Call) → outcome M z (run M z cs).contents c ≡ outcome M z (run M z ds).contents c
  pub one_more_alike : (c : Call) → SameHistory (run M z (cs ++ c ∷ [])) (run M z (ds ++ c ∷ []))

-- This is so for any two lists whose accepted calls are the same unit by unit.
abbrev pub RunsOrderFree : Type 0 → Type 0
RunsOrderFree V =
    (M : Payload V) (z : Size) (cs ds : List Call)
    → SameByUnit (accepted_calls M z cs) (accepted_calls M z ds) → OrderFree M z cs ds

-- Accepted is what a real run could do, no more and no less.
pub record AcceptsRuns {V : Type 0} (M : Payload V) (z : Size) (cs : List Call) : Type 0 where
  -- one more call is accepted exactly when it is possible after the events so far
  pub next_call : (u : ℕ) (e : Event) → (refusal M z (run M z cs).contents u e ≡ None) ↔ Possible z (run M z cs).log u e
  -- the accepted calls of any list are a run, and the others have changed nothing
  pub accepted_run : Run z (accepted_calls M z cs)
  pub refused_idle : run M z (accepted_calls M z cs) ≡ run M z cs
  -- a run is accepted whole
  pub run_accepted : Run z cs → accepted_calls M z cs ≡ cs
  -- the accepted events are logged in the order handed in
  pub logged : (u : ℕ) → (run M z cs).log u ≡ by_unit (accepted_calls M z cs) u
  -- the state of each message is what the events say
  pub posts_stated : (m : ℕ) → Stated (run_events M z cs) m ((run M z cs).contents.posts m)

-- This is so for any list of calls.
abbrev pub AcceptedAreRuns : Type 0 → Type 0
AcceptedAreRuns V = (M : Payload V) (z : Size) (cs : List Call) → AcceptsRuns M z cs

-- The stamps of two marks of any run decide their order: the answer is o exactly when the marks stand so.
abbrev pub StampsDecide : Type 0
StampsDecide =
    (z : Size) (cs : List Call) → Run z cs → (u i v j : ℕ) → IsMark (events_in cs) u i → IsMark (events_in cs) v j
    → (p q : ℕ → ℕ) → Stamp (events_in cs) u i p → Stamp (events_in cs) v j q
    → (o : Precedence) → (stamp_order p q u v ≡ o) ↔ Ordered (events_in cs) u i v j o

-- Two contents differ in nothing but what their cells carry.
pub record SameButValues {V W : Type 0} (s : Contents V) (t : Contents W) : Type 0 where
  pub clocks : (u j : ℕ) → (s.rows u j).clock ≡ (t.rows u j).clock
  pub flags : (u j : ℕ) → (s.rows u j).flag ≡ (t.rows u j).flag
  pub message_clocks : (m j : ℕ) → (s.message_rows m j).clock ≡ (t.message_rows m j).clock
  pub message_flags : (m j : ℕ) → (s.message_rows m j).flag ≡ (t.message_rows m j).flag
  pub posts : (m : ℕ) → s.posts m ≡ t.posts m

-- What cells carry changes nothing else, whatever two boards carry.
pub record IgnoresPayload {V W : Type 0} (M : Payload V) (N : Payload W) (z : Size) : Type 0 where
  -- in contents that differ in nothing else, a call is taken by both boards or refused by both for one reason, and leaves such contents
  pub refusals : (s : Contents V) (t : Contents W) → SameButValues s t → (u : ℕ) (e : Event)
      → refusal M z s u e ≡ refusal N z t u e
  pub step : (s : Contents V) (t : Contents W) → SameButValues s t → (c : Call)
      → SameButValues (next_contents M z s c) (next_contents N z t c)
  -- so the same calls lead to the same logs, and to such contents
  pub logs : (cs : List Call) (u : ℕ) → (run M z cs).log u ≡ (run N z cs).log u
  pub contents_alike : (cs : List Call) → SameButValues (run M z cs).contents (run N z cs).contents

-- This is so for any two payloads.
abbrev pub PayloadFree : Type 0 → Type 0 → Type 0
PayloadFree V W = (M : Payload V) (N : Payload W) (z : Size) → IgnoresPayload M N z
