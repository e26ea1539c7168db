-- A list of calls and another after it: the history and the outcomes of both.
use Rattle.std.proofs.Common.{◌≡◌, List, [], ◌∷◌, ◌++◌, Some, None, Option, Result, refl, ap, ◌∙◌}
use Rattle.std.proofs.lemmas.List.{same_from_push}
use Rattle.history.specs.declared.refusals.Refusal.{Refusal}
use Rattle.history.specs.Rows.{Payload}
use Rattle.history.specs.Runs.{Size}
use Rattle.history.specs.declared.calls.Call.{Call}
use Rattle.history.specs.Board.{History, new_history, if_taken, answer_or_refusal, refusal, next_contents, outcome, outcomes_from, outcomes, history_after, run_from, run, accepted_calls_from}
use Rattle.history.specs.declared.calls.Answer.{Answer}
use Rattle.measures.specs.Boards.{taken_calls}

module _ {V : Type 0} (M : Payload V) (z : Size) where
  -- the history after both is the second's after the first's, and the outcomes of both are the first's and then the second's
  pub run_append : (h : History V) (cs ds : List Call) → run_from M z h (cs ++ ds) ≡ run_from M z (run_from M z h cs) ds
  run_append h [] ds = refl
  run_append h (c ∷ cs) ds = run_append (history_after M z h c) cs ds

  pub outcomes_append : (h : History V) (cs ds : List Call)
      → outcomes_from M z h.contents (cs ++ ds) ≡ outcomes_from M z h.contents cs ++ outcomes_from M z (run_from M z h cs).contents ds
  outcomes_append h [] ds = refl
  outcomes_append h (c ∷ cs) ds = ap (λ (l : List (Result (Answer V) Refusal)). outcome M z h.contents c ∷ l) (outcomes_append (history_after M z h c) cs ds)

  -- one call more: the contents after it, and its outcome at the end
  pub state_push : (cs : List Call) (c : Call) → (run M z (cs ++ c ∷ [])).contents ≡ next_contents M z (run M z cs).contents c
  state_push cs c = ap (λ (h : History V). h.contents) (run_append (new_history M) cs (c ∷ []))

  pub outcomes_push : (cs : List Call) (c : Call) → outcomes M z (cs ++ c ∷ []) ≡ outcomes M z cs ++ outcome M z (run M z cs).contents c ∷ []
  outcomes_push cs c = outcomes_append (new_history M) cs (c ∷ [])

  -- the last of the outcomes is what the last call was answered
  pub last_outcome : (cs : List Call) (c : Call) (xs : List (Result (Answer V) Refusal)) (x : Result (Answer V) Refusal)
      → xs ++ x ∷ [] ≡ outcomes M z (cs ++ c ∷ []) → x ≡ outcome M z (run M z cs).contents c
  last_outcome cs c xs x e = (same_from_push xs (outcomes M z cs) x (outcome M z (run M z cs).contents c) (e ∙ outcomes_push cs c)).1

  -- the accepted calls are those that were answered with no refusal
  pub accepted_taken : (h : History V) (cs : List Call) → accepted_calls_from M z h cs ≡ taken_calls cs (outcomes_from M z h.contents cs)
  accepted_taken h [] = refl
  accepted_taken h (c ∷ cs) = one (refusal M z h.contents c.unit c.event) _ _ (accepted_taken (history_after M z h c) cs)
    where
      one : (o : Option Refusal) (x : Answer V) (xs : List (Result (Answer V) Refusal)) {l : List Call} → l ≡ taken_calls cs xs → if_taken o (c ∷ l) l ≡ taken_calls (c ∷ cs) (answer_or_refusal o x ∷ xs)
      one None x xs e = ap (λ (l : List Call). c ∷ l) e
      one (Some r) x xs e = e
