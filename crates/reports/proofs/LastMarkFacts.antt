-- The mark at the end of a list of accepted calls: its event, and the answer to it.
use Rattle.std.proofs.Common.{◌≡◌, ℕ, Bool, List, [], ◌∷◌, ◌++◌, length, Some, None, refl, sym, ap, ◌∙◌, if◌then◌else◌, ◌==◌, true, false}
use Rattle.std.specs.List.{slice_get}
use Rattle.std.proofs.Math.Path.{fun_ext}
use Rattle.std.proofs.lemmas.Bool.{eq-eqb}
use Rattle.std.proofs.lemmas.Option.{same_Some}
use Rattle.history.specs.Events.{Events, Logs, at}
use Rattle.history.specs.declared.calls.Event.TheVariants.{Mark}
use Rattle.history.specs.declared.calls.Event.{Event}
use Rattle.history.specs.Rows.{Payload}
use Rattle.history.specs.Runs.{Size, by_unit, with_entry, call, events_in}
use Rattle.history.specs.declared.calls.Call.{Call}
use Rattle.history.specs.Board.{History, Reply, new_history, contents_after, answer_to, reply, refusal, run}
use Rattle.history.specs.Laws.{run_events}
use Rattle.history.proofs.Promises.{accepts_runs, entry_here, after_taken, run_push, replies_as_long}
use Rattle.reports.proofs.TranscriptFacts.{AllTaken, taken_accepted}
use Rattle.reports.proofs.LineFacts.{taken_both}

-- After the elements of a list stands the next.
pub seam : {A : Type 0} (xs : List A) (y : A) (ys : List A) → slice_get (xs ++ y ∷ ys) (length xs) ≡ Some y
seam [] y ys = refl
seam (x ∷ xs) y ys = seam xs y ys

-- One call more of its unit.
by_unit_push : (cs : List Call) (u : ℕ) (e : Event) → by_unit (cs ++ call u e ∷ []) u ≡ by_unit cs u ++ e ∷ []
by_unit_push [] u e = ap (λ (t : Bool). if t then e ∷ [] else []) (eq-eqb u u refl)
by_unit_push (c ∷ cs) u e = pushed (u == c.unit) _ (by_unit cs u) (by_unit_push cs u e)
  where
    pushed : (t : Bool) (xs ys : List Event) → xs ≡ ys ++ e ∷ [] → (if t then c.event ∷ xs else xs) ≡ (if t then c.event ∷ ys else ys) ++ e ∷ []
    pushed true xs ys p = ap (λ (es : List Event). c.event ∷ es) p
    pushed false xs ys p = p

-- some calls, and then a mark of unit u
abbrev pub with_mark : List Call → ℕ → ℕ → List Call
with_mark before u l = before ++ call u (Mark l) ∷ []

module _ {V : Type 0} (M : Payload V) (z : Size) where
  -- The log of accepted calls is these calls unit by unit.
  pub log_is : (cs : List Call) → AllTaken M z (new_history M) cs → (run M z cs).log ≡ by_unit cs
  log_is cs taken = fun_ext (λ u. (accepts_runs M z cs).logged u ∙ ap (λ (l : List Call). by_unit l u) (taken_accepted M z (new_history M) cs taken))

  module _ (before : List Call) (u l : ℕ) (taken : AllTaken M z (new_history M) before) (allowed : refusal M z (run M z before).contents u (Mark l) ≡ None) where
    -- All of the calls are accepted.
    all_taken : AllTaken M z (new_history M) (with_mark before u l)
    all_taken = taken_both M z (new_history M) before (call u (Mark l) ∷ []) taken (allowed, tt)

    -- The events of the run are those of the calls, and the mark stands there.
    pub events_are : run_events M z (with_mark before u l) ≡ events_in (with_mark before u l)
    events_are = ap at (log_is (with_mark before u l) all_taken)

    pub mark_there : run_events M z (with_mark before u l) u (length (by_unit before u)) ≡ Some (Mark l)
    mark_there = ap (λ (ev : Events). ev u (length (by_unit before u))) events_are ∙ ap (λ (es : List Event). slice_get es (length (by_unit before u))) (by_unit_push before u (Mark l)) ∙ seam (by_unit before u) (Mark l) []

    -- The reply that the history has for the mark is the answer to it.
    pub answer_is : (r : Reply V) → at (run M z (with_mark before u l)).replies u (length (by_unit before u)) ≡ Some r
        → r.answer ≡ answer_to M z u (Mark l) ((run M z before).contents.rows u) ((contents_after M z (run M z before).contents u (Mark l)).rows u)
    answer_is r e =
        let h = run M z before in
        let x = reply M z u (Mark l) (h.contents.rows u) ((contents_after M z h.contents u (Mark l)).rows u) in
        let next = run_push M z before (call u (Mark l)) ∙ after_taken M z h (call u (Mark l)) allowed in
        let last = replies_as_long M z before u ∙ ap (λ (logs : Logs). length (logs u)) (log_is before taken) in
        ap (λ (y : Reply V). y.answer)
        (same_Some _ _
        (sym e
        ∙ ap (λ (g : History V). at g.replies u (length (by_unit before u))) next
        ∙ ap (λ (i : ℕ). at (with_entry h.replies u x) u i) (sym last)
        ∙ entry_here h.replies u x))
