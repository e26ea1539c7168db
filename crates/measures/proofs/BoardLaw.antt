-- The law of boards follows from the law of runs: what a board answered and what its memory shows are a run's.
-- A board just made has been handed no call, and each call that follows the rules is one more, so whatever list of calls it was handed, its
-- answers are the outcomes of a run and its memory shows the contents of the run. Each clause of the law is then one on runs, read off the
-- answers and the memory.
use Rattle.std.proofs.Common.{◌≡◌, ℕ, ◌+◌, ◌*◌, ◌-◌, ◌<◌, ◌≤◌, Bool, true, false, ◌⊎◌, List, [], ◌∷◌, ◌++◌, length, take, set, get_or, Some, None, Ok, Err, Result, IsTrue, sym, refl, ap, ap₂, ◌∙◌, subst, inl, inr, ⊎_elim, suc, arith, rules}
use Rattle.std.specs.List.{slice_get}
use Rattle.std.specs.Option.{option_map}
use Rattle.std.specs.Prelude.{slice_index, slice_index_or}
use Rattle.std.proofs.lemmas.Bool.{cases_lt, le-ltb, lt-ltb}
use Rattle.std.proofs.lemmas.List.{get_or_past, places, take_more, take_more_set}
use Rattle.std.proofs.lemmas.Grind.{common_steps}
use Rattle.std.proofs.lemmas.Option.{slice_get-map}
use Rattle.history.specs.declared.messages.Post.{Post}
use Rattle.history.specs.Messages.{unsent, is_on_its_way}
use Rattle.history.specs.declared.refusals.Refusal.{Refusal}
use Rattle.history.specs.declared.refusals.Refusal.TheVariants.{MemoryTooShort}
use Rattle.grid.specs.Rows.{row}
use Rattle.history.specs.Counting.{HowMany}
use Rattle.history.specs.Events.{Events}
use Rattle.history.specs.declared.calls.Event.{Event}
use Rattle.history.specs.declared.calls.Event.TheVariants.{Mark}
use Rattle.history.specs.HappenedBefore.{AtOrBefore}
use Rattle.history.specs.Stamps.{Stamp}
use Rattle.history.specs.Marks.{IsMark}
use Rattle.history.specs.Rows.{Payload}
use Rattle.history.specs.declared.cells.Cell.{Cell}
use Rattle.history.specs.Runs.{Size, Ranged}
use Rattle.history.specs.declared.calls.Call.{Call}
use Rattle.history.specs.Board.{Contents, Reply, new_history, mark_answer, outcomes, run}
use Rattle.history.specs.declared.calls.Answer.{Answer}
use Rattle.history.specs.Laws.{SameHistory, OrderFree, MessageAnswered, answers_of}
use Rattle.history.proofs.Promises.{accepts_runs, messages_answered, replies_are_answers, order_free, marks_ranged, last_stamp, count_below_same, exactly_none}
use Rattle.history.specs.Limits.{most_marks}
use Rattle.causality.specs.Boards.{Memory, Holds, Shows, FollowsRules, Makes, state_answer, left_answer, Obeys, has_room, setup}
use Rattle.causality.proofs.Promises.{each_shows}
use Rattle.measures.specs.Words.{Word}
use Rattle.measures.specs.Measures.{Meaning, Lawful}
use Rattle.measures.specs.Worths.{measured_payload, measured_size, measured_rules}
use Rattle.measures.specs.Laws.{accepted_events, Valued, TellsOfFlows, AtMarks, MarksJudged}
use Rattle.measures.specs.Boards.{StandAlike, taken_calls, Played, MarkAnswered, Agree, AtAnswers, MarksGood, LawOfBoards}
use Rattle.measures.proofs.JudgeFacts.{marks_judged}
use Rattle.measures.proofs.ReplayFacts.{state_push, outcomes_push, last_outcome, accepted_taken}
use Rattle.measures.proofs.ValueFacts.{valued}

-- The reply to an accepted call is its answer.
reply_answered : {V : Type 0} (M : Payload V) (z : Size) (cs : List Call) (u i : ℕ) (r : Reply V) → slice_get ((run M z cs).replies u) i ≡ Some r
    → slice_get (answers_of u cs (outcomes M z cs)) i ≡ Some r.answer
reply_answered {V} M z cs u i r e =
    ap (λ (l : List (Answer V)). slice_get l i) (sym (replies_are_answers V M z cs u))
    ∙ slice_get-map (λ (x : Reply V). x.answer) ((run M z cs).replies u) i
    ∙ ap (option_map (λ (x : Reply V). x.answer)) e

-- A row of a board of n units and k messages is a unit's or a message's.
row_cases : (n k r : ℕ) → r < n + k → (r < n) ⊎ ((p : ℕ) × (p < k) × (r ≡ n + p))
row_cases n k r h = ⊎_elim inl (λ (l : n ≤ r). inr (r - n, omega arith, omega arith)) (cases_lt r n)

module _ {V : Type 0} (n k : ℕ) (s t : Contents V) (rows : (u j : ℕ) → s.rows u j ≡ t.rows u j) (message_rows : (p j : ℕ) → s.message_rows p j ≡ t.message_rows p j) where
  -- Grids that hold one part of contents with the same rows hold the same in each row.
  same_grid : {X : Type 0} (part : Cell V → X) (other : X) (xs ys : List X) → Holds part other n k xs s → Holds part other n k ys t
      → (r j : ℕ) → r < n + k → j < n → slice_index_or xs (r * n + j) other ≡ slice_index_or ys (r * n + j) other
  same_grid part other xs ys a b r j h w = elim (row_cases n k r h) [
    | inl l ↦ a.rows r j l w ∙ ap part (rows r j) ∙ sym (b.rows r j l w)
    | inr (p, l, e) ↦ rw e (a.message_rows p j l w ∙ ap part (message_rows p j) ∙ sym (b.message_rows p j l w))
  ]

  -- Memories that show such contents stand alike.
  stand_alike : (start : V) (a b : Memory V) → ((p : ℕ) → s.posts p ≡ t.posts p) → Shows start n k a s → Shows start n k b t → StandAlike start n k a b
  stand_alike start a b posts x y = record {
    clocks = same_grid (λ c. c.clock) 0 a.clocks.cells.now b.clocks.cells.now x.clocks y.clocks;
    flags = same_grid (λ c. c.flag) false a.flags.cells.now b.flags.cells.now x.flags y.flags;
    values = same_grid (λ c. c.value) start a.values.cells.now b.values.cells.now x.values y.values;
    posts = λ p h. x.posts p h ∙ posts p ∙ sym (y.posts p h);
  }

module _ {V : Type 0} (start : V) (n k : ℕ) (a b : Memory V) (alike : StandAlike start n k a b) where
  -- On boards that stand alike the question for the state of a message is answered alike.
  same_states : (p : ℕ) → state_answer k true a.posts p ≡ state_answer k true b.posts p
  same_states p = elim (cases_lt p k) [
    | inl l ↦ rw (lt-ltb p k l) (ap (λ (x : Post). Ok x) (alike.posts p l))
    | inr h ↦ rw (le-ltb p k h) refl
  ]

  -- So is the question for the number of messages on their way.
  same_left : left_answer k true a.posts ≡ left_answer k true b.posts
  same_left = ap (λ (t : ℕ). Ok t) (count_below_same (λ p. is_on_its_way (slice_index_or a.posts p unsent)) (λ p. is_on_its_way (slice_index_or b.posts p unsent)) k (λ p h. ap is_on_its_way (alike.posts p h)))

module _ {V : Type 0} (m : Meaning V) (n k : ℕ) where
  -- what the cells of such a board carry, and its size
  abbrev M : Payload V
  M = measured_payload m n

  abbrev z : Size
  z = measured_size m n k most_marks

  -- a board just made was handed no call
  played_made : (old new : Memory V) → Makes M n k None old new → Played m n k [] [] new
  played_made old new h = record { answers_are = refl; shows = h.contents refl }

  -- a call that follows the rules is one more
  played_called : (cs : List Call) (xs : List (Result (Answer V) Refusal)) (old new : Memory V) (c : Call) (x : Result (Answer V) Refusal)
      → Played m n k cs xs old → Obeys (setup (measured_rules m) n k) c old new x → has_room n k old ≡ true → Played m n k (cs ++ c ∷ []) (xs ++ x ∷ []) new
  played_called cs xs old new c x p o there =
      let s = (run M z cs).contents in
      let f = subst (λ (b : Bool). FollowsRules M z c b old new x) there o.follows in
      record {
        answers_are = ap₂ (λ (l : List (Result (Answer V) Refusal)) (y : Result (Answer V) Refusal). l ++ y ∷ []) p.answers_are (f.answer s p.shows)
            ∙ sym (outcomes_push M z cs c);
        shows = subst (Shows m.start n k new) (sym (state_push M z cs c)) (f.contents s p.shows);
      }

  -- A call whose memory is too short is refused, and the board stands as it did.
  played_short : (cs : List Call) (xs : List (Result (Answer V) Refusal)) (old new : Memory V) (c : Call) (x : Result (Answer V) Refusal)
      → Played m n k cs xs old → Obeys (setup (measured_rules m) n k) c old new x → has_room n k old ≡ false → (x ≡ Err MemoryTooShort) × Played m n k cs xs new
  played_short cs xs old new c x p o short =
      let s = (run M z cs).contents in
      let f = subst (λ (b : Bool). FollowsRules M z c b old new x) short o.follows in
      (f.answer s p.shows, record { answers_are = p.answers_are; shows = f.contents s p.shows })

  -- One call more of two lists that a loop goes over.
  pub played_more : (ds : List Call) (ys : List (Result (Answer V) Refusal)) (i : ℕ) (d : Call) (y : Result (Answer V) Refusal)
      → i < length ds → i < length ys → (old new : Memory V) → Played m n k (take i ds) (take i ys) old
      → Obeys (setup (measured_rules m) n k) (get_or ds i d) old new y → has_room n k old ≡ true → Played m n k (take (i + 1) ds) (take (i + 1) (set ys i y)) new
  played_more ds ys i d y h h' old new p o there =
      rw (take_more ds i d h, take_more_set ys i y h') (played_called (take i ds) (take i ys) old new (get_or ds i d) y p o there)

  -- Boards whose histories stand alike stand alike.
  played_alike : (cs ds : List Call) (xs ys : List (Result (Answer V) Refusal)) (a b : Memory V) → Played m n k cs xs a → Played m n k ds ys b
      → SameHistory (run M z cs) (run M z ds) → StandAlike m.start n k a b
  played_alike cs ds xs ys a b p q h =
      stand_alike n k (run M z cs).contents (run M z ds).contents h.rows h.message_rows m.start a b h.posts p.shows q.shows

  -- The same accepted calls unit by unit: the same answers, and boards that stand alike.
  played_agree : (cs ds : List Call) (xs ys : List (Result (Answer V) Refusal)) (a b : Memory V) → Played m n k cs xs a → Played m n k ds ys b
      → OrderFree M z cs ds → Agree m n k cs ds xs ys a b
  played_agree cs ds xs ys a b p q o = let same = played_alike cs ds xs ys a b p q o.alike in record {
    answers = λ u. ap (answers_of u cs) p.answers_are ∙ o.answers u ∙ sym (ap (answers_of u ds) q.answers_are);
    alike = same;
    one_more = λ c x y a' b' p' q'. (
      last_outcome M z cs c xs x p'.answers_are
          ∙ o.one_more c
          ∙ sym (last_outcome M z ds c ys y q'.answers_are),
      played_alike (cs ++ c ∷ []) (ds ++ c ∷ []) (xs ++ x ∷ []) (ys ++ y ∷ []) a' b' p' q' (o.one_more_alike c),
    );
    states = same_states m.start n k a b same;
    left = same_left m.start n k a b same;
  }

  -- The reply to a mark is its answer.
  mark_answered : (cs : List Call) (xs : List (Result (Answer V) Refusal)) (memory : Memory V) → Played m n k cs xs memory
      → (u i : ℕ) → Valued m n k most_marks cs u i → MarkAnswered m n k cs xs u i
  mark_answered cs xs memory p u i v = record {
    valued = v;
    answer = ap (λ (l : List (Result (Answer V) Refusal)). slice_get (answers_of u cs l) i) p.answers_are
        ∙ reply_answered M z cs u i (record { answer = mark_answer v.answered.clock v.answered.predecessors v.answered.value; stamp = v.answered.stamp }) v.answered.reply_is;
  }

  -- The reply to a send or a receipt is its answer.
  message_answered : (cs : List Call) (xs : List (Result (Answer V) Refusal)) (memory : Memory V) → Played m n k cs xs memory → (u i : ℕ) (e : Event)
      → accepted_events m n k most_marks cs u i ≡ Some e
      → (a : Answer V) × (slice_get (answers_of u cs xs) i ≡ Some a) × MessageAnswered (accepted_events m n k most_marks cs) u i e a
  message_answered cs xs memory q u i e p =
      let (r, replied, is) = messages_answered V M z cs u i e p in
      (r.answer, ap (λ (l : List (Result (Answer V) Refusal)). slice_get (answers_of u cs l) i) q.answers_are ∙ reply_answered M z cs u i r replied, is)

-- The stamp of a mark has no marks of units that the board does not have.
no_marks : (ev : Events) (z : Size) → Ranged ev z → (v : ℕ) → z.units ≤ v → (P : ℕ → Type 0) → HowMany (λ j. IsMark ev v j × P j) 0
no_marks ev z r v h P = ([], exactly_none (λ j a. (let w = r.unit v j a.0.0 a.0.1 in omega arith)), refl)

-- As long as a mark's unit does nothing more, its row of clocks is the mark's stamp.
module _ {V : Type 0} (m : Meaning V) (n k : ℕ) (cs : List Call) (xs : List (Result (Answer V) Refusal)) (memory : Memory V) (p : Played m n k cs xs memory)
    (u i l : ℕ) (e : accepted_events m n k most_marks cs u i ≡ Some (Mark l)) (last : length ((run (measured_payload m n) (measured_size m n k most_marks) cs).log u) ≡ suc i) where
  ranged : Ranged (accepted_events m n k most_marks cs) (measured_size m n k most_marks)
  ranged = marks_ranged (measured_payload m n) (measured_size m n k most_marks) cs

  -- what a row that is read from the memory has for unit v
  in_row : (v : ℕ) → v < n → slice_index (row memory.clocks.cells.now n u) v ≡ ((run (measured_payload m n) (measured_size m n k most_marks) cs).contents.rows u v).clock
  in_row v h = read ∙ p.shows.clocks.rows u v (ranged.unit u i l e) h
    where
      read : get_or (row memory.clocks.cells.now n u) v 0 ≡ get_or memory.clocks.cells.now (u * n + v) 0
      read = search (rules, places)

  past_row : (v : ℕ) → n ≤ v → slice_index (row memory.clocks.cells.now n u) v ≡ 0
  past_row v h = get_or_past (row memory.clocks.cells.now n u) v 0 (grind (arith, common_steps))

  board_stamp : Stamp (accepted_events m n k most_marks cs) u i (λ v. slice_index (row memory.clocks.cells.now n u) v)
  board_stamp v = elim (cases_lt v n) [
    | inl h ↦ rw (in_row v h) (last_stamp (measured_payload m n) (measured_size m n k most_marks) cs u i l e last v)
    | inr h ↦ rw (past_row v h) (no_marks (accepted_events m n k most_marks cs) (measured_size m n k most_marks) ranged v h (λ j. AtOrBefore (accepted_events m n k most_marks cs) v j u i))
  ]

-- What is true of the value in the reply to each mark of every run is true of the value answered.
pub at_answers : {V : Type 0} (m : Meaning V) (P : Events → ℕ → ℕ → V → Type 0) → AtMarks m P → AtAnswers m P
unfolding mark_answered
at_answers m P law n k cs xs memory p u i l e = let (v, is) = law n k most_marks cs u i l e in (mark_answered m n k cs xs memory p u i v, is)

-- so what a judge says of it
pub marks_good : {V : Type 0} (m : Meaning V) (some all : V → Bool) (good : Word → Type 0) → MarksJudged m some all good → MarksGood m some all good
marks_good m some all good law = at_answers m (λ ev u i v. TellsOfFlows good (some v) (all v) ev u i) law

-- The law of boards, for every lawful measure.
pub law_of_boards : {V : Type 0} (m : Meaning V) (admits : V → Type 0) → Lawful m admits → LawOfBoards m admits
law_of_boards m admits laws = record {
  shows = λ n k. each_shows m.start n k;
  made = λ n k old new h. played_made m n k old new h;
  called = λ n k cs xs old new c x p o r. played_called m n k cs xs old new c x p o r;
  short = λ n k cs xs old new c x p o r. played_short m n k cs xs old new c x p o r;
  accepted_are = λ n k cs xs memory p. accepted_taken (measured_payload m n) (measured_size m n k most_marks) (new_history (measured_payload m n)) cs ∙ ap (taken_calls cs) (sym p.answers_are);
  accepts = λ n k cs. accepts_runs (measured_payload m n) (measured_size m n k most_marks) cs;
  marks_answered = λ n k cs xs memory p u i l e. mark_answered m n k cs xs memory p u i (valued m admits laws n k most_marks cs u i l e);
  stamped = λ n k cs xs memory p u i l e last. board_stamp m n k cs xs memory p u i l e last;
  messages_answered = λ n k cs xs memory q u i e p. message_answered m n k cs xs memory q u i e p;
  order = λ n k cs ds xs ys a b p q same. played_agree m n k cs ds xs ys a b p q (order_free (measured_payload m n) (measured_size m n k most_marks) cs ds same);
  judged = λ some all good by_some by_all. marks_good m some all (λ w. IsTrue (good w)) (marks_judged m admits laws some all (λ w. IsTrue (good w)) by_some by_all);
}
