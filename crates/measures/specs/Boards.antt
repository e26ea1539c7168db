-- Boards under a measure, and the law of every list of calls handed to a board just made.
use Rattle.std.specs.Prelude.{◌≡◌, ℕ, suc, ◌+◌, ◌*◌, ◌<◌, Bool, true, false, ◌&&◌, ◌||◌, List, [], ◌∷◌, ◌++◌, length, Some, None, Ok, Err, Result, IsTrue, slice_get, slice_index, slice_index_or}
use Rattle.grid.specs.Rows.{row}
use Rattle.history.specs.declared.refusals.Refusal.{Refusal}
use Rattle.history.specs.declared.refusals.Refusal.TheVariants.{MemoryTooShort}
use Rattle.history.specs.Events.{Events}
use Rattle.history.specs.declared.calls.Event.{Event}
use Rattle.history.specs.declared.calls.Event.TheVariants.{Mark}
use Rattle.history.specs.Messages.{unsent}
use Rattle.history.specs.Stamps.{Stamp}
use Rattle.history.specs.Runs.{SameByUnit}
use Rattle.history.specs.declared.calls.Call.{Call}
use Rattle.history.specs.Board.{mark_answer, outcomes, run, accepted_calls}
use Rattle.history.specs.declared.calls.Answer.{Answer}
use Rattle.history.specs.Laws.{AcceptsRuns, MessageAnswered, answers_of}
use Rattle.history.specs.Limits.{most_marks}
use Rattle.causality.specs.Boards.{Memory, Shows, EachShows, Makes, state_answer, left_answer, Obeys, has_room, setup}
use Rattle.measures.specs.Words.{Word}
use Rattle.measures.specs.Measures.{Meaning}
use Rattle.measures.specs.Judges.{Judges}
use Rattle.measures.specs.Worths.{measured_payload, measured_size, measured_rules}
use Rattle.measures.specs.Laws.{accepted_events, Valued, TellsOfFlows}

-- Two memories stand alike for a board of n units and k messages: all n + k rows of clocks, flags and values are equal, and so are the k
-- places of the message memory. What lies beyond them may differ.
pub record StandAlike {V : Type 0} (start : V) (n k : ℕ) (a b : Memory V) : Type 0 where
  pub clocks : (r j : ℕ) → r < n + k → j < n
      → slice_index_or a.clocks.cells.now (r * n + j) 0 ≡ slice_index_or b.clocks.cells.now (r * n + j) 0
  pub flags : (r j : ℕ) → r < n + k → j < n
      → slice_index_or a.flags.cells.now (r * n + j) false ≡ slice_index_or b.flags.cells.now (r * n + j) false
  pub values : (r j : ℕ) → r < n + k → j < n
      → slice_index_or a.values.cells.now (r * n + j) start ≡ slice_index_or b.values.cells.now (r * n + j) start
  pub posts : (p : ℕ) → p < k → slice_index_or a.posts p unsent ≡ slice_index_or b.posts p unsent

-- the calls of a list that were answered with no refusal
abbrev pub taken_calls : {V : Type 0} → List Call → List (Result (Answer V) Refusal) → List Call
taken_calls [] xs = []
taken_calls (c ∷ cs) [] = []
taken_calls (c ∷ cs) (Ok a ∷ xs) = c ∷ taken_calls cs xs
taken_calls (c ∷ cs) (Err e ∷ xs) = taken_calls cs xs

module _ {V : Type 0} (m : Meaning V) (n k : ℕ) where
  -- A board of n units and k messages, just made, was handed the calls cs in this order, and nothing else wrote its memory: it answered them
  -- so, and its memory holds this now.
  pub record Played (cs : List Call) (answers : List (Result (Answer V) Refusal)) (memory : Memory V) : Type 0 where
    pub answers_are : answers ≡ outcomes (measured_payload m n) (measured_size m n k most_marks) cs
    pub shows : Shows m.start n k memory (run (measured_payload m n) (measured_size m n k most_marks) cs).contents

  -- What the accepted mark at position i of unit u was answered: its own number, the units of its immediate predecessors, and the join of the
  -- measure along the longest flows that end there, each taken exactly once and no other.
  pub record MarkAnswered (cs : List Call) (answers : List (Result (Answer V) Refusal)) (u i : ℕ) : Type 0 where
    pub valued : Valued m n k most_marks cs u i
    pub answer : slice_get (answers_of u cs answers) i
        ≡ Some (mark_answer valued.answered.clock valued.answered.predecessors valued.answered.value)

  -- What two lists with the same accepted calls unit by unit have in common: each unit's j-th accepted call got the same answer, the boards
  -- stand alike, and any one more call, the same for both, is answered alike and leaves them alike; so are the questions for the state of a
  -- message and for the number of those on their way, which only read.
  pub record Agree (cs ds : List Call) (xs ys : List (Result (Answer V) Refusal)) (a b : Memory V) : Type 0 where
    pub answers : (u : ℕ) → answers_of u cs xs ≡ answers_of u ds ys
    pub alike : StandAlike m.start n k a b
    pub one_more : (c : Call) (x y : Result (Answer V) Refusal) (a' b' : Memory V)
        → Played (cs ++ c ∷ []) (xs ++ x ∷ []) a' → Played (ds ++ c ∷ []) (ys ++ y ∷ []) b'
        → (x ≡ y) × StandAlike m.start n k a' b'
    pub states : (p : ℕ) → state_answer k true a.posts p ≡ state_answer k true b.posts p
    pub left : left_answer k true a.posts ≡ left_answer k true b.posts

-- P is true, for every list of calls handed to a board just made, of each accepted mark (the events, its unit and position) and of the value that
-- it was answered.
abbrev pub AtAnswers : {V : Type 0} → Meaning V → (Events → ℕ → ℕ → V → Type 0) → Type 0
AtAnswers {V} m P =
    (n k : ℕ) (cs : List Call) (xs : List (Result (Answer V) Refusal)) (memory : Memory V) → Played m n k cs xs memory
    → (u i l : ℕ) → accepted_events m n k most_marks cs u i ≡ Some (Mark l)
    → (v : MarkAnswered m n k cs xs u i) × P (accepted_events m n k most_marks cs) u i v.valued.answered.value

-- Of the value answered at each accepted mark the two answers say whether some, and whether all, of the longest flows that end there are good.
abbrev pub MarksGood : {V : Type 0} → Meaning V → (V → Bool) → (V → Bool) → (Word → Type 0) → Type 0
MarksGood m some all good = AtAnswers m (λ ev u i v. TellsOfFlows good (some v) (all v) ev u i)

-- The law of boards under a measure: for every size, and every list of calls handed to a board just made, repeats, refusals and all.
pub record LawOfBoards {V : Type 0} (m : Meaning V) (admits : V → Type 0) : Type 0 where
  -- every memory shows some contents, so what is said of the contents that a memory shows is never idle
  pub shows : (n k : ℕ) → EachShows m.start n k
  -- a board just made has been handed no call, and each call that follows the rules is one more
  pub made : (n k : ℕ) (old new : Memory V) → Makes (measured_payload m n) n k None old new → Played m n k [] [] new
  pub called : (n k : ℕ) (cs : List Call) (xs : List (Result (Answer V) Refusal))
      (old new : Memory V) (c : Call) (x : Result (Answer V) Refusal)
      → Played m n k cs xs old → Obeys (setup (measured_rules m) n k) c old new x → has_room n k old ≡ true
      → Played m n k (cs ++ c ∷ []) (xs ++ x ∷ []) new
  -- a call whose memory is too short is refused, and the board stands as it did
  pub short : (n k : ℕ) (cs : List Call) (xs : List (Result (Answer V) Refusal))
      (old new : Memory V) (c : Call) (x : Result (Answer V) Refusal)
      → Played m n k cs xs old → Obeys (setup (measured_rules m) n k) c old new x → has_room n k old ≡ false
      → (x ≡ Err MemoryTooShort) × Played m n k cs xs new
  -- the accepted calls are those that were answered with no refusal
  pub accepted_are : (n k : ℕ) (cs : List Call) (xs : List (Result (Answer V) Refusal)) (memory : Memory V)
      → Played m n k cs xs memory
      → accepted_calls (measured_payload m n) (measured_size m n k most_marks) cs ≡ taken_calls cs xs
  -- and they are what a real run could do, no more and no less
  pub accepts : (n k : ℕ) (cs : List Call) → AcceptsRuns (measured_payload m n) (measured_size m n k most_marks) cs
  -- the value answered at each accepted mark is the join along the longest flows that end there
  pub marks_answered : (n k : ℕ) (cs : List Call) (xs : List (Result (Answer V) Refusal)) (memory : Memory V)
      → Played m n k cs xs memory
      → (u i l : ℕ) → accepted_events m n k most_marks cs u i ≡ Some (Mark l) → MarkAnswered m n k cs xs u i
  -- as long as its unit does nothing more, the clocks in the row of a mark's unit are the mark's stamp
  pub stamped : (n k : ℕ) (cs : List Call) (xs : List (Result (Answer V) Refusal)) (memory : Memory V)
      → Played m n k cs xs memory
      → (u i l : ℕ) → accepted_events m n k most_marks cs u i ≡ Some (Mark l)
      → length ((run (measured_payload m n) (measured_size m n k most_marks) cs).log u) ≡ suc i
      → Stamp (accepted_events m n k most_marks cs) u i (λ v. slice_index (row memory.clocks.cells.now n u) v)
  -- each accepted send or receipt is answered the number of its unit's marks so far
  pub messages_answered : (n k : ℕ) (cs : List Call) (xs : List (Result (Answer V) Refusal)) (memory : Memory V)
      → Played m n k cs xs memory
      → (u i : ℕ) (e : Event) → accepted_events m n k most_marks cs u i ≡ Some e
      → (a : Answer V) × (slice_get (answers_of u cs xs) i ≡ Some a)
      × MessageAnswered (accepted_events m n k most_marks cs) u i e a
  -- the order of the calls of different units does not matter
  pub order : (n k : ℕ) (cs ds : List Call) (xs ys : List (Result (Answer V) Refusal)) (a b : Memory V)
      → Played m n k cs xs a → Played m n k ds ys b
      → SameByUnit (accepted_calls (measured_payload m n) (measured_size m n k most_marks) cs)
      (accepted_calls (measured_payload m n) (measured_size m n k most_marks) ds)
      → Agree m n k cs ds xs ys a b
  -- under every judge, some of the value answered is yes exactly when one of the longest flows is good, all exactly when each is
  pub judged : (some all : V → Bool) (good : Word → Bool)
      → Judges ◌||◌ m admits some (λ w. IsTrue (good w)) → Judges ◌&&◌ m admits all (λ w. IsTrue (good w))
      → MarksGood m some all (λ w. IsTrue (good w))
