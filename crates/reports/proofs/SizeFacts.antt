-- What units are answered does not depend on the size of the board.
-- Both boards log the same events. A send or a receipt is answered by the events alone, and so is each part of a mark's answer: its clock counts
-- marks, its set has the immediate predecessors, and its value joins the longest flows, listed by either board.
use Rattle.std.proofs.Common.{◌≡◌, ℕ, suc, List, [], ◌∷◌, map, length, Some, refl, sym, ap, ap₂, ◌∙◌, subst}
use Rattle.std.specs.List.{slice_get}
use Rattle.std.specs.Option.{option_map}
use Rattle.std.proofs.Math.Path.{fun_ext}
use Rattle.std.proofs.lemmas.List.{length-map}
use Rattle.std.proofs.lemmas.Option.{same_Some, slice_get-map}
use Rattle.bitset.proofs.Promises.{same_members}
use Rattle.history.specs.Board.{Reply, mark_answer, outcomes, run, accepted_calls}
use Rattle.history.specs.declared.calls.Answer.{Answer}
use Rattle.history.specs.declared.calls.Answer.TheVariants.{Sent, Received}
use Rattle.history.specs.Counting.{Exactly}
use Rattle.history.specs.Events.{Events, Logs, at}
use Rattle.history.specs.declared.calls.Event.TheVariants.{Mark, Receive, Send}
use Rattle.history.specs.declared.calls.Event.{Event}
use Rattle.history.specs.Flows.{Longest}
use Rattle.history.specs.HappenedBefore.{Immediate}
use Rattle.history.specs.Laws.{MessageAnswered, answers_of}
use Rattle.history.specs.Marks.{marks}
use Rattle.history.specs.Rows.{Payload}
use Rattle.history.specs.Runs.{Size, SameByUnit, by_unit}
use Rattle.history.specs.declared.calls.Call.{Call}
use Rattle.history.proofs.Promises.{accepts_runs, messages_answered, replies_are_answers, replies_as_long}
use Rattle.measures.specs.Laws.{Valued, MarksValued, join_over}
use Rattle.measures.specs.Measures.{Meaning}
use Rattle.measures.specs.Worths.{measured_payload, measured_size}

-- Two lists are equal that are as long as a third and hold the same at each of its indexes.
by_places : {A B : Type 0} (es : List B) (xs ys : List A) → length xs ≡ length es → length ys ≡ length es
    → ((i : ℕ) (e : B) → slice_get es i ≡ Some e → slice_get xs i ≡ slice_get ys i) → xs ≡ ys
by_places [] [] [] p q each = refl
by_places [] [] (y ∷ ys) p q each = cc
by_places [] (x ∷ xs) ys p q each = cc
by_places (e ∷ es) [] ys p q each = cc
by_places (e ∷ es) (x ∷ xs) [] p q each = cc
by_places (e ∷ es) (x ∷ xs) (y ∷ ys) p q each = ap₂ ◌∷◌ (same_Some _ _ (each 0 e refl)) (by_places es xs ys (cc) (cc) (λ i. each (suc i)))

-- Marks whose three parts are the same are answered the same.
same_marked : {V : Type 0} (c d p q : ℕ) (x y : V) → c ≡ d → p ≡ q → x ≡ y → mark_answer c p x ≡ mark_answer d q y
same_marked c d p q x y same_clock same_predecessors same_value = cc

module _ {V : Type 0} (m : Meaning V) (valued : MarksValued m) (limit n k n' k' : ℕ) (cs ds : List Call)
    (whole : accepted_calls (measured_payload m n) (measured_size m n k limit) cs ≡ cs) (whole' : accepted_calls (measured_payload m n') (measured_size m n' k' limit) ds ≡ ds) (same : SameByUnit cs ds) where
  abbrev M : Payload V
  M = measured_payload m n

  abbrev z : Size
  z = measured_size m n k limit

  abbrev M' : Payload V
  M' = measured_payload m n'

  abbrev z' : Size
  z' = measured_size m n' k' limit

  -- The same is logged on both boards.
  logs : (run M z cs).log ≡ (run M' z' ds).log
  logs = fun_ext (λ u. (accepts_runs M z cs).logged u ∙ ap (λ (l : List Call). by_unit l u) whole ∙ same u
      ∙ ap (λ (l : List Call). by_unit l u) (sym whole') ∙ sym ((accepts_runs M' z' ds).logged u))

  -- the events of both runs
  abbrev ev : Events
  ev = at (run M z cs).log

  abbrev ev' : Events
  ev' = at (run M' z' ds).log

  events : ev ≡ ev'
  events = ap at logs

  -- the answers to a unit
  abbrev answers : ℕ → List (Answer V)
  answers u = map (λ r. r.answer) ((run M z cs).replies u)

  abbrev answers' : ℕ → List (Answer V)
  answers' u = map (λ r. r.answer) ((run M' z' ds).replies u)

  module _ (u i : ℕ) where
    -- What stands among the replies stands among the answers.
    answer_there : (replies : List (Reply V)) (a : Answer V) (stamp : ℕ → ℕ) → slice_get replies i ≡ Some (record { answer = a; stamp = stamp })
        → slice_get (map (λ (r : Reply V). r.answer) replies) i ≡ Some a
    answer_there replies a stamp stands = slice_get-map (λ (r : Reply V). r.answer) replies i ∙ ap (option_map (λ (r : Reply V). r.answer)) stands

    -- A mark is answered the same on both boards.
    marks_same : (l : ℕ) → ev u i ≡ Some (Mark l) → slice_get (answers u) i ≡ slice_get (answers' u) i
    marks_same l is_mark =
        let on_first : Valued m n k limit cs u i = valued n k limit cs u i l is_mark in
        let on_second : Valued m n' k' limit ds u i = valued n' k' limit ds u i l (subst (λ (x : Events). x u i ≡ Some (Mark l)) events is_mark) in
        let first = on_first.answered in
        let second = on_second.answered in
        answer_there ((run M z cs).replies u) (mark_answer first.clock first.predecessors first.value) first.stamp first.reply_is
        ∙ ap Some (same_marked first.clock second.clock first.predecessors second.predecessors first.value second.value
        (first.clock_is ∙ ap (λ (x : Events). marks x u (suc i)) events ∙ sym second.clock_is)
        (same_members first.predecessors second.predecessors
        (λ q member. (second.predecessors_are q).1 (subst (λ (x : Events). (j : ℕ) × Immediate x q j u i) events ((first.predecessors_are q).0 member)))
        (λ q member. (first.predecessors_are q).1 (subst (λ (x : Events). (j : ℕ) × Immediate x q j u i) (sym events) ((second.predecessors_are q).0 member))))
        (on_first.value_is ∙ ap (λ (x : Events). join_over m x on_first.flow on_first.flows) events
        ∙ sym (on_second.value_any on_first.flow on_first.flows (subst (λ (x : Events). Exactly (Longest x u i) (on_first.flow ∷ on_first.flows)) events on_first.all))))
        ∙ sym (answer_there ((run M' z' ds).replies u) (mark_answer second.clock second.predecessors second.value) second.stamp second.reply_is)

    -- the answer of a reply
    reply_there : (replies : List (Reply V)) (r : Reply V) → slice_get replies i ≡ Some r → slice_get (map (λ (x : Reply V). x.answer) replies) i ≡ Some r.answer
    reply_there replies r stands = slice_get-map (λ (x : Reply V). x.answer) replies i ∙ ap (option_map (λ (x : Reply V). x.answer)) stands

    -- So is a send or a receipt, whose answer is a number of marks.
    message_same : (e : Event) (by_marks : ℕ → Answer V) → ev u i ≡ Some e
        → ((x : Events) (a : Answer V) → MessageAnswered x u i e a → a ≡ by_marks (marks x u i)) → slice_get (answers u) i ≡ slice_get (answers' u) i
    message_same e by_marks is says =
        let (r, stands, said) = messages_answered V M z cs u i e is in
        let (r', stands', said') = messages_answered V M' z' ds u i e (subst (λ (x : Events). x u i ≡ Some e) events is) in
        reply_there ((run M z cs).replies u) r stands
        ∙ ap Some (says ev r.answer said ∙ ap (λ (x : Events). by_marks (marks x u i)) events ∙ sym (says ev' r'.answer said'))
        ∙ sym (reply_there ((run M' z' ds).replies u) r' stands')

    -- Each call is answered the same on both boards.
    answer_same : (e : Event) → ev u i ≡ Some e → slice_get (answers u) i ≡ slice_get (answers' u) i
    answer_same (Send p) is = message_same (Send p) Sent is (λ x a said. said)
    answer_same (Receive p) is = message_same (Receive p) Received is (λ x a said. said)
    answer_same (Mark l) is = marks_same l is

  -- Each unit got the same answers.
  pub same_answers : (u : ℕ) → answers_of u cs (outcomes M z cs) ≡ answers_of u ds (outcomes M' z' ds)
  same_answers u =
      sym (replies_are_answers V M z cs u)
      ∙ by_places ((run M z cs).log u) (answers u) (answers' u)
      (length-map ((run M z cs).replies u) (λ (r : Reply V). r.answer) ∙ replies_as_long M z cs u)
      (length-map ((run M' z' ds).replies u) (λ (r : Reply V). r.answer) ∙ replies_as_long M' z' ds u ∙ ap (λ (l : Logs). length (l u)) (sym logs))
      (answer_same u)
      ∙ replies_are_answers V M' z' ds u
