-- The replies that a history has are the outcomes of the calls.
use Rattle.std.proofs.Common.{◌≡◌, ℕ, List, [], ◌∷◌, ◌++◌, map, Some, None, sym, refl, ap, ◌∙◌, inl, inr, if◌then◌else◌, ◌==◌}
use Rattle.std.proofs.lemmas.Bool.{cases_eq, eq-eqb, ne_eqb}
use Rattle.std.proofs.lemmas.List.{map_push}
use mathlib.Core.List.{append-nil, append_assoc}
use Rattle.history.specs.declared.refusals.Refusal.{Refusal}
use Rattle.history.specs.Rows.{Payload}
use Rattle.history.specs.Runs.{Size, with_entry}
use Rattle.history.specs.declared.calls.Call.{Call}
use Rattle.history.specs.Board.{History, Reply, reply, new_history, refusal, outcomes_from, contents_after, run_from}
use Rattle.history.specs.declared.calls.Answer.{Answer}
use Rattle.history.specs.Laws.{answers_of, RepliesAreAnswers}
use Rattle.history.proofs.RunFacts.{taken, after_taken, after_refused, by_calls}

module _ {V : Type 0} (M : Payload V) (z : Size) (u : ℕ) where
  -- the answers to unit u
  abbrev answers_in : History V → List (Answer V)
  answers_in h = map (λ r. r.answer) (h.replies u)

  -- one reply more
  entry_answers : (replies : ℕ → List (Reply V)) (v : ℕ) (r : Reply V) (xs : List (Answer V))
      → map (λ (x : Reply V). x.answer) (with_entry replies v r u) ++ xs ≡ map (λ (x : Reply V). x.answer) (replies u) ++ (if u == v then r.answer ∷ xs else xs)
  entry_answers replies v r xs = elim (cases_eq u v) [
    | inl e ↦ rw (eq-eqb u v e) (ap (λ (l : List (Answer V)). l ++ xs) (map_push (λ (x : Reply V). x.answer) (replies v) r) ∙ append_assoc (map (λ (x : Reply V). x.answer) (replies v)) (r.answer ∷ []) xs ∙ ap (λ (w : ℕ). map (λ (x : Reply V). x.answer) (replies w) ++ r.answer ∷ xs) (sym e))
    | inr ne ↦ rw (ne_eqb u v ne) refl
  ]

  abbrev Says : History V → List Call → Type 0
  Says h cs = answers_in (run_from M z h cs) ≡ answers_in h ++ answers_of u cs (outcomes_from M z h.contents cs)

  took : (h : History V) (c : Call) (cs : List Call) → refusal M z h.contents c.unit c.event ≡ None → Says (taken M z h c) cs → Says h (c ∷ cs)
  took h c cs e ih =
      ap (λ (g : History V). answers_in (run_from M z g cs)) (after_taken M z h c e)
      ∙ ih
      ∙ rw e (entry_answers h.replies c.unit (reply M z c.unit c.event (h.contents.rows c.unit) ((contents_after M z h.contents c.unit c.event).rows c.unit)) (answers_of u cs (outcomes_from M z (contents_after M z h.contents c.unit c.event) cs)))

  turned : (h : History V) (c : Call) (cs : List Call) (x : Refusal) → refusal M z h.contents c.unit c.event ≡ Some x → Says h cs → Says h (c ∷ cs)
  turned h c cs x e ih = ap (λ (g : History V). answers_in (run_from M z g cs)) (after_refused M z h c x e) ∙ ih ∙ rw e refl

  outcomes_say : (h : History V) (cs : List Call) → Says h cs
  outcomes_say = by_calls M z Says (λ h. sym (append-nil (answers_in h))) took turned

pub replies_are_answers : (V : Type 0) → RepliesAreAnswers V
replies_are_answers V M z cs u = outcomes_say M z u (new_history M) cs
