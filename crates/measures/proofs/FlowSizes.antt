-- The flow count is the number of flows, and the span has the numbers of marks of the shortest and the longest.
-- Along one flow the count is 1, so joined over a list it is the list's length, up to the cap. Along one flow both lengths of the span are its number
-- of marks, up to the cap, and the join has the least and the greatest of a list, each of which one of the flows has.
use Rattle.std.proofs.Common.{◌≡◌, ℕ, ◌+◌, ◌<◌, ◌≤◌, ◌⊎◌, List, [], ◌∷◌, map, length, min, max, sym, refl, ap, ◌∙◌, ap₂, subst, inl, inr, ⊎_elim, arith}
use Rattle.std.proofs.lemmas.Bool.{lt-ltb, cases_lt}
use Rattle.std.proofs.lemmas.List.{length-map}
use Rattle.history.specs.Counting.{Among, Exactly}
use Rattle.history.specs.Events.{Events, Position}
use Rattle.history.specs.Flows.{Longest, letter_at, word}
use Rattle.measures.specs.declared.spans.Lengths.{Lengths}
use Rattle.measures.specs.Words.{Word}
use Rattle.measures.specs.Measures.{Spelled, word_value_from, word_value, join_of}
use Rattle.measures.specs.Counts.{IsFlowCount, flow_count, flow_count_lawful, Counted, MarksCounted}
use Rattle.measures.specs.Laws.{join_over, accepted_events, AtMarks}
use Rattle.measures.specs.Limits.{most_flows, most_labels, most_length}
use Rattle.measures.specs.Spans.{lengths, longer, span, span_lawful, Spanned, MarksSpanned}
use Rattle.measures.proofs.BoardLaw.{at_answers}
use Rattle.measures.proofs.JudgeFacts.{flow_spelled}
use Rattle.measures.proofs.ValueFacts.{ranged, valued}

-- along every word the count is 1
count_word_value : (labels v : ℕ) (w : Word) → word_value_from (flow_count labels) v w ≡ v
count_word_value labels v [] = refl
count_word_value labels v (l ∷ w) = count_word_value labels v w

-- a count joined with those of more flows
count_joined : (labels : ℕ) {A : Type 0} (c : A → ℕ) → ((a : A) → c a ≡ 1) → (v : ℕ) (fs : List A) → v ≤ most_flows → join_of (flow_count labels) v (map c fs) ≡ min (v + length fs) most_flows
count_joined labels c one v [] h = omega arith
count_joined labels c one v (f ∷ fs) h = count_joined labels c one (min (v + c f) most_flows) fs (omega arith) ∙ (let e = one f in omega arith)

flows_counted : (labels : ℕ) → (0 < labels) × (labels ≤ most_labels) → AtMarks (flow_count labels) Counted
flows_counted labels in_range n k limit cs u i l e =
    let m = flow_count labels in
    let v = valued m IsFlowCount (flow_count_lawful labels in_range) n k limit cs u i l e in
    let ev = accepted_events m n k limit cs in
    let one = count_word_value labels 1 (word ev v.flow) in
    let is : v.answered.value ≡ min (length (v.flow ∷ v.flows)) most_flows =
    v.value_is
    ∙ count_joined labels (λ f. word_value m (word ev f)) (λ f. count_word_value labels 1 (word ev f)) (word_value m (word ev v.flow)) v.flows (omega arith)
    ∙ omega arith in
    (v, (length (v.flow ∷ v.flows), (v.flow ∷ v.flows, v.all, refl), is))

pub marks_counted : (labels : ℕ) → (0 < labels) × (labels ≤ most_labels) → MarksCounted (flow_count labels)
marks_counted labels in_range = at_answers (flow_count labels) Counted (flows_counted labels in_range)

-- r has the least shortest and the greatest longest number of v and of what c makes of the list
record Extremes {A : Type 0} (c : A → Lengths) (v : Lengths) (fs : List A) (r : Lengths) : Type 0 where
  low_first : r.shortest ≤ v.shortest
  low_rest : (f : A) → Among f fs → r.shortest ≤ (c f).shortest
  low_from : (r.shortest ≡ v.shortest) ⊎ ((f : A) × Among f fs × (r.shortest ≡ (c f).shortest))
  high_first : v.longest ≤ r.longest
  high_rest : (f : A) → Among f fs → (c f).longest ≤ r.longest
  high_from : (r.longest ≡ v.longest) ⊎ ((f : A) × Among f fs × (r.longest ≡ (c f).longest))

min_either : (a b : ℕ) → (min a b ≡ a) ⊎ (min a b ≡ b)
min_either a b = elim (cases_lt a b) [ inl h ↦ inl (omega arith) | inr h ↦ inr (omega arith) ]

max_either : (a b : ℕ) → (max a b ≡ a) ⊎ (max a b ≡ b)
max_either a b = elim (cases_lt a b) [ inl h ↦ inr (omega arith) | inr h ↦ inl (omega arith) ]

module _ (labels : ℕ) where
  span_joined : {A : Type 0} (c : A → Lengths) (v : Lengths) (fs : List A) → Extremes c v fs (join_of (span labels) v (map c fs))
  span_joined c v [] = record {
    low_first = omega arith;
    low_rest = λ f i. absurd i;
    low_from = inl refl;
    high_first = omega arith;
    high_rest = λ f i. absurd i;
    high_from = inl refl;
  }
  span_joined c v (f ∷ fs) =
      let both = lengths (min v.shortest (c f).shortest) (max v.longest (c f).longest) in
      let x = span_joined c both fs in
      let low = x.low_first in
      let high = x.high_first in
      record {
        low_first = omega arith;
        low_rest = λ g. ⊎_elim (λ e. subst (λ (a : _). (join_of (span labels) both (map c fs)).shortest ≤ (c a).shortest) (sym e) (omega arith)) (x.low_rest g);
        low_from = ⊎_elim
            (λ e. ⊎_elim (λ y. inl (e ∙ y)) (λ y. inr (f, inl refl, e ∙ y)) (min_either v.shortest (c f).shortest))
            (λ p. inr (p.0, inr p.1, p.2))
            x.low_from;
        high_first = omega arith;
        high_rest = λ g. ⊎_elim (λ e. subst (λ (a : _). (c a).longest ≤ (join_of (span labels) both (map c fs)).longest) (sym e) (omega arith)) (x.high_rest g);
        high_from = ⊎_elim
            (λ e. ⊎_elim (λ y. inl (e ∙ y)) (λ y. inr (f, inl refl, e ∙ y)) (max_either v.longest (c f).longest))
            (λ p. inr (p.0, inr p.1, p.2))
            x.high_from;
      }

  -- along a word of labels each end grows by the number of the word's labels
  span_word_value : (a b : ℕ) (w : Word) → a ≤ most_length → b ≤ most_length → Spelled (span labels) w → word_value_from (span labels) (lengths a b) w ≡ lengths (min (a + length w) most_length) (min (b + length w) most_length)
  span_word_value a b [] ha hb ls = ap₂ lengths (omega arith) (omega arith)
  span_word_value a b (l ∷ w) ha hb ls = rw (lt-ltb l labels ls.0) (span_word_value (longer a) (longer b) w (omega arith) (omega arith) ls.1 ∙ ap₂ lengths (omega arith) (omega arith))

  module _ (ev : Events) (u i : ℕ) (spelled : (f : List Position) → Longest ev u i f → Spelled (span labels) (word ev f)) where
    abbrev along : List Position → Lengths
    along f = word_value (span labels) (word ev f)

    -- along a longest flow both lengths are the number of its marks
    along_is : (f : List Position) → Longest ev u i f → along f ≡ lengths (min (length f) most_length) (min (length f) most_length)
    along_is f h =
        let marks : length (word ev f) ≡ length f = length-map f (letter_at ev) in
        span_word_value 0 0 (word ev f) (omega arith) (omega arith) (spelled f h)
        ∙ ap₂ lengths (omega arith) (omega arith)

    low_is : (f : List Position) → Longest ev u i f → (along f).shortest ≡ min (length f) most_length
    low_is f h = ap (λ (e : Lengths). e.shortest) (along_is f h)

    high_is : (f : List Position) → Longest ev u i f → (along f).longest ≡ min (length f) most_length
    high_is f h = ap (λ (e : Lengths). e.longest) (along_is f h)

    spanned : (f : List Position) (fs : List (List Position)) → Exactly (Longest ev u i) (f ∷ fs) → Spanned ev u i (join_over (span labels) ev f fs)
    spanned f fs all =
        let x = span_joined along (along f) fs in
        let r = join_of (span labels) (along f) (map along fs) in
        record {
          shortest = ⊎_elim
              (λ e. (f, all.sound f (inl refl), e ∙ low_is f (all.sound f (inl refl))))
              (λ p. (p.0, all.sound p.0 (inr p.1), p.2 ∙ low_is p.0 (all.sound p.0 (inr p.1))))
              x.low_from;
          none_shorter = λ g h. (let is = low_is g h in let low : r.shortest ≤ (along g).shortest = ⊎_elim (λ e. subst (λ (a : List Position). r.shortest ≤ (along a).shortest) (sym e) x.low_first) (x.low_rest g) (all.complete g h) in omega arith);
          longest = ⊎_elim
              (λ e. (f, all.sound f (inl refl), e ∙ high_is f (all.sound f (inl refl))))
              (λ p. (p.0, all.sound p.0 (inr p.1), p.2 ∙ high_is p.0 (all.sound p.0 (inr p.1))))
              x.high_from;
          none_longer = λ g h. (let is = high_is g h in let high : (along g).longest ≤ r.longest = ⊎_elim (λ e. subst (λ (a : List Position). (along a).longest ≤ r.longest) (sym e) x.high_first) (x.high_rest g) (all.complete g h) in omega arith);
        }

  flows_spanned : (0 < labels) × (labels ≤ most_labels) → AtMarks (span labels) Spanned
  flows_spanned in_range n k limit cs u i l e =
      let admits = λ (v : Lengths). (v.shortest ≤ v.longest) × (v.longest ≤ most_length) in
      let laws = span_lawful labels in_range in
      let v = valued (span labels) admits laws n k limit cs u i l e in
      let ev = accepted_events (span labels) n k limit cs in
      let rg = ranged (span labels) admits laws n k limit cs in
      (v, subst (Spanned ev u i) (sym v.value_is) (spanned ev u i (λ f h. flow_spelled (span labels) n k limit ev rg u i f h.0 h.1) v.flow v.flows v.all))

  pub marks_spanned : (0 < labels) × (labels ≤ most_labels) → MarksSpanned (span labels)
  marks_spanned in_range = at_answers (span labels) Spanned (flows_spanned in_range)
