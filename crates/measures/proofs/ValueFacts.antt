-- Each accepted mark's value is the join along the longest flows that end there.
-- What is right for a mark is the join over the flows to it with the last mark in front. A row that shows such values makes one for the
-- mark, so by the promise on values each accepted mark was answered one; and these flows turned round are the longest flows, whatever
-- their order in a list.
use Rattle.std.proofs.Common.{◌≡◌, ℕ, List, [], ◌∷◌, map, reverse, Some, sym, ap, ◌∙◌, ap₂}
use Rattle.std.proofs.Math.Path.{fun_ext}
use Rattle.std.proofs.lemmas.Option.{same_Some}
use Rattle.std.proofs.lemmas.List.{map-id, reverse-reverse}
use Rattle.std.proofs.lemmas.Simd.{map-map}
use Rattle.history.specs.Counting.{Exactly}
use Rattle.history.specs.Events.{Events, Position}
use Rattle.history.specs.declared.calls.Event.TheVariants.{Mark}
use Rattle.history.specs.Flows.{Longest, word}
use Rattle.history.specs.declared.calls.Call.{Call}
use Rattle.history.specs.Laws.{Answered}
use Rattle.history.specs.Runs.{Ranged}
use Rattle.history.proofs.Promises.{values_right, marks_ranged, order_free}
use Rattle.measures.specs.Measures.{Meaning, Lawful, word_value, join_of}
use Rattle.measures.specs.Worths.{measured_payload, measured_size}
use Rattle.measures.specs.Laws.{join_over, accepted_events, Valued, LawOfRuns}
use Rattle.measures.proofs.BackwardFlows.{flows_longest, longest_flows}
use Rattle.measures.proofs.JoinFacts.{word_value_back, word_value_back_word, total_joined, exactly_total}
use Rattle.measures.proofs.GatheredFlows.{Tally}
use Rattle.measures.proofs.WorthFacts.{worth_mark}

module _ {V : Type 0} (m : Meaning V) (admits : V → Type 0) (laws : Lawful m admits) (ev : Events) where
  -- along flows with the last mark in front, and along these turned round
  back_words : (fs : List (List Position)) → map (word_value_back m ev) fs ≡ map (λ f. word_value m (word ev f)) (map reverse fs)
  back_words fs = ap (λ (g : List Position → V). map g fs) (fun_ext (word_value_back_word m ev)) ∙ sym (map-map (λ f. word_value m (word ev f)) reverse fs)

  words_back : (fs : List (List Position)) → map (word_value_back m ev) (map reverse fs) ≡ map (λ f. word_value m (word ev f)) fs
  words_back fs = back_words (map reverse fs) ∙ ap (map (λ f. word_value m (word ev f))) (map-map reverse reverse fs ∙ ap (λ (g : List Position → List Position). map g fs) (fun_ext reverse-reverse) ∙ map-id fs)

  module _ (u i : ℕ) (x : V) where
    tally_flows : Tally m ev u i x → (f : List Position) × (fs : List (List Position)) × Exactly (Longest ev u i) (f ∷ fs) × (x ≡ join_over m ev f fs)
    tally_flows ([], e, t) = cc
    tally_flows (f ∷ fs, e, t) = (
      reverse f,
      map reverse fs,
      flows_longest ev u i (f ∷ fs) e,
      same_Some _ _ (sym t ∙ total_joined m admits laws ev f fs)
          ∙ ap₂ (join_of m) (word_value_back_word m ev f) (back_words fs),
    )

    tally_any : Tally m ev u i x → (f : List Position) (fs : List (List Position)) → Exactly (Longest ev u i) (f ∷ fs) → x ≡ join_over m ev f fs
    tally_any (gs, e, t) f fs h =
        same_Some _ _
        (sym t
        ∙ exactly_total m admits laws ev gs (map reverse (f ∷ fs)) e (longest_flows ev u i (f ∷ fs) h)
        ∙ total_joined m admits laws ev (reverse f) (map reverse fs))
        ∙ ap₂ (join_of m) (word_value_back_word m ev (reverse f) ∙ ap (λ (g : List Position). word_value m (word ev g)) (reverse-reverse f)) (words_back fs)

module _ {V : Type 0} (m : Meaning V) (admits : V → Type 0) (laws : Lawful m admits) (n k limit : ℕ) (cs : List Call) where
  pub ranged : Ranged (accepted_events m n k limit cs) (measured_size m n k limit)
  ranged = marks_ranged (measured_payload m n) (measured_size m n k limit) cs

  -- each accepted mark was answered the join over the flows to it
  mark_tally : (u i l : ℕ) → accepted_events m n k limit cs u i ≡ Some (Mark l)
      → (a : Answered (measured_payload m n) (measured_size m n k limit) cs u i) × Tally m (accepted_events m n k limit cs) u i a.value
  mark_tally =
      let ev = accepted_events m n k limit cs in
      values_right (measured_payload m n) (measured_size m n k limit) cs (Tally m ev)
      (λ u i l r e shown. worth_mark ev m admits laws n k limit ranged u i l r e shown)

  pub valued : (u i l : ℕ) → accepted_events m n k limit cs u i ≡ Some (Mark l) → Valued m n k limit cs u i
  valued u i l e =
      let (a, w) = mark_tally u i l e in
      let ev = accepted_events m n k limit cs in
      let (f, fs, all, is) = tally_flows m admits laws ev u i a.value w in
      record { answered = a; flow = f; flows = fs; all = all; value_is = is; value_any = tally_any m admits laws ev u i a.value w }

pub law_of_runs : {V : Type 0} (m : Meaning V) (admits : V → Type 0) → Lawful m admits → LawOfRuns m
law_of_runs m admits laws = record {
  marks_valued = λ n k limit cs u i l e. valued m admits laws n k limit cs u i l e;
  order_free = λ n k limit cs ds same. order_free (measured_payload m n) (measured_size m n k limit) cs ds same;
}
