-- The set answered at a mark holds the states to which the words of the longest flows lead.
use Rattle.std.proofs.Common.{◌≡◌, ℕ, ◌*◌, ◌^◌, ◌<◌, ◌≤◌, Bool, ◌||◌, ◌↔◌, List, ◌∷◌, get_or, sym, ap, ◌∙◌, subst, IsTrue}
use Rattle.std.proofs.lemmas.Bool.Decides.{Decides-at, Decides-like, Decides-eqb}
use Rattle.bitset.specs.Sets.{bit, has, meets, within}
use Rattle.bitset.proofs.Promises.{has_or}
use Rattle.measures.specs.Limits.{most_labels}
use Rattle.measures.specs.Words.{Letter, Word, Labels}
use Rattle.measures.specs.Measures.{Spelled, word_value}
use Rattle.measures.specs.Judges.{Judges}
use Rattle.measures.specs.Laws.{accepted_events, AtMarks}
use Rattle.measures.specs.Automata.{state_sets}
use Rattle.measures.specs.Formats.{labels_in, PatternOf}
use Rattle.measures.specs.Acceptance.{state_after, accepts, Reaches, MarksReach}
use Rattle.measures.specs.StateSetLaws.{state_sets_lawful}
use Rattle.measures.proofs.AcceptanceFacts.{meets_or, within_or}
use Rattle.measures.proofs.BoardLaw.{at_answers}
use Rattle.measures.proofs.ValueFacts.{ranged}
use Rattle.measures.proofs.JudgeFacts.{some_decided, marks_judged}
use Rattle.measures.proofs.PatternFacts.{member, recognizes}

module _ (b : List ℕ) (states labels start finals : ℕ) (table : List ℕ) (parts : PatternOf b states labels start finals table) (in_range : (0 < labels) × (labels ≤ most_labels)) (begins : start < states) (complete : (k : ℕ) → k < states * labels → get_or table k 0 < states) where
  there : (w : Word) → Labels labels w → Labels (labels_in b) w
  there w ls = subst (λ (n : ℕ). Labels n w) parts.labels_are ls

  -- whether a set holds q goes through unions, and of one word says whether it leads to q
  pub holds_judges : (q : ℕ) → Judges ◌||◌ (state_sets states labels start table) (λ set. (0 < set) × (set < 2 ^ states)) (λ set. has set q) (λ w. state_after b w ≡ q)
  holds_judges q = record {
    joins = λ x y _ _. has_or x y q;
    decides = λ l w ls.
        (let (to, from) = member b states labels start finals table parts in_range begins complete (l ∷ w) (there (l ∷ w) ls) q in
        Decides-like (has (word_value (state_sets states labels start table) (l ∷ w)) q) to from (Decides-eqb (bit (word_value (state_sets states labels start table) (l ∷ w)) q) 1));
  }

  -- an answer that says of one word whether it is accepted
  pub accepted_decides : (answer : ℕ → Bool) → ((w : Word) → Labels (labels_in b) w → answer (word_value (state_sets states labels start table) w) ≡ accepts b w)
      → (l : Letter) (w : Word) → Spelled (state_sets states labels start table) (l ∷ w) → IsTrue (answer (word_value (state_sets states labels start table) (l ∷ w))) ↔ IsTrue (accepts b (l ∷ w))
  accepted_decides answer is l w ls = let e = is (l ∷ w) (there (l ∷ w) ls) in ((λ t. sym e ∙ t), (λ t. e ∙ t))

  flows_reach : AtMarks (state_sets states labels start table) (λ ev u i set. Reaches b ev u i set (meets set finals) (within set finals))
  flows_reach n k limit cs u i l e =
      let m = state_sets states labels start table in
      let admits = λ (set : ℕ). (0 < set) × (set < 2 ^ states) in
      let laws = state_sets_lawful states labels start table in_range begins complete in
      let known = recognizes b states labels start finals table parts in_range begins complete in
      let (v, judged) = marks_judged m admits laws (λ set. meets set finals) (λ set. within set finals) (λ w. IsTrue (accepts b w))
      (record { joins = λ x y _ _. meets_or finals x y; decides = accepted_decides (λ set. meets set finals) known.some_is })
      (record { joins = λ x y _ _. within_or finals x y; decides = accepted_decides (λ set. within set finals) known.all_is })
      n k limit cs u i l e in (
        v,
        record {
          states = λ q.
              (let held = Decides-eqb (bit v.answered.value q) 1 in
              let reached = Decides-at _ _ (ap (λ (set : ℕ). has set q) v.value_is)
              (some_decided m admits laws n k limit (accepted_events m n k limit cs) (ranged m admits laws n k limit cs) u i (λ set. has set q) (λ w. state_after b w ≡ q) v.flow v.flows v.all (holds_judges q)) in
              ((λ x. reached.0 (held.1 x)), (λ p. held.0 (reached.1 p))));
          verdict = judged;
        },
      )

  pub marks_reach : MarksReach b (state_sets states labels start table) (λ set. meets set finals) (λ set. within set finals)
  marks_reach = at_answers (state_sets states labels start table) (λ ev u i set. Reaches b ev u i set (meets set finals) (within set finals)) flows_reach
