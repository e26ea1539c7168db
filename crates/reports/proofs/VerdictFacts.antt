-- What the value of a mark says of the longest flows that end there, in the words of the pattern under the relabelling.
-- The law of judges (`measures`) gives this for any lawful measure and answers that go through its joins. The relabelled pattern is one, since an
-- accepted front keeps its numbers within their bounds; and one state more or less is such an answer too, which gives the set exactly.
use Rattle.std.proofs.Common.{◌≡◌, ℕ, ◌^◌, ◌<◌, Bool, ◌||◌, ◌↔◌, List, None, IsTrue, bit_or, refl, ap}
use Rattle.std.proofs.lemmas.Bool.Decides.{Decides-at, Decides-eqb}
use Rattle.bitset.specs.Sets.{bit, Member, has}
use Rattle.history.specs.Events.{Events, Position}
use Rattle.history.specs.Flows.{Longest, word}
use Rattle.measures.specs.Acceptance.{state_after, accepts, Recognizes}
use Rattle.measures.specs.Automata.{state_sets}
use Rattle.measures.specs.Formats.{states_in, labels_in, start_in, finals_in, table_in, relabelling_labels_in, entries_in, with_zeros, PatternOf}
use Rattle.measures.specs.Judges.{Judges}
use Rattle.measures.specs.Laws.{accepted_events, AtMarks, TellsOfFlows}
use Rattle.measures.specs.Limits.{most_entries, most_labels}
use Rattle.measures.specs.Measures.{Meaning, Lawful, word_value}
use Rattle.measures.specs.Words.{Word, Labels}
use Rattle.measures.proofs.Promises.{meets_or, within_or, some_decided, marks_judged, holds_judges, accepted_decides, recognizes, relabelling_lawful, state_sets_lawful, translated_judges, ranged}
use Rattle.reports.specs.Laws.{in_pattern}
use Rattle.reports.specs.Reports.{relabelling_at, front_fault, judge_in, some_in, all_in}
use Rattle.reports.proofs.FrontFacts.{labels_in_range, start_below, table_below, count_in_range}

-- What a set says of the longest flows that end at event i of unit u: it holds exactly the states to which their words lead the pattern, once
-- relabelled, and its two answers tell whether some, and whether each, of these words is accepted.
abbrev pub SetTells : List ℕ → Events → ℕ → ℕ → ℕ → Type 0
SetTells b ev u i set =
    ((q : ℕ) → Member q set ↔ ((f : List Position) × Longest ev u i f × (state_after b (in_pattern b (word ev f)) ≡ q)))
    × TellsOfFlows (λ w. IsTrue (accepts b (in_pattern b w))) (some_in b set) (all_in b set) ev u i

module _ (b : List ℕ) (sound : front_fault b ≡ None) where
  -- the pattern's measure
  abbrev inner : Meaning ℕ
  inner = state_sets (states_in b) (labels_in b) (start_in b) (with_zeros most_entries (table_in b))

  -- the relabelling's table
  abbrev entries : List ℕ
  entries = with_zeros most_labels (entries_in b (relabelling_at b))

  -- the sets of states that the measure comes to
  abbrev admits : ℕ → Type 0
  admits set = (0 < set) × (set < 2 ^ states_in b)

  -- The parts of the pattern are those in the bytes.
  parts : PatternOf b (states_in b) (labels_in b) (start_in b) (finals_in b) (with_zeros most_entries (table_in b))
  parts = record { states_are = refl; labels_are = refl; start_is = refl; finals_are = refl; table_is = refl }

  -- The relabelled pattern is a lawful measure.
  laws : Lawful (judge_in b) admits
  laws =
      relabelling_lawful entries (relabelling_labels_in b (relabelling_at b)) inner (count_in_range b sound)
      (state_sets_lawful (states_in b) (labels_in b) (start_in b) (with_zeros most_entries (table_in b)) (labels_in_range b sound) (start_below b sound) (table_below b sound))

  -- An answer that the pattern shows of words is one that the relabelled pattern shows of relabelled words.
  relabelled_judges : {op : Bool → Bool → Bool} {answer : ℕ → Bool} {good : Word → Type 0} → Judges op inner admits answer good
      → Judges op (judge_in b) admits answer (λ w. good (in_pattern b w))
  relabelled_judges = translated_judges entries (relabelling_labels_in b (relabelling_at b)) inner (labels_in_range b sound).0

  -- The pattern recognizes the words that its bytes accept.
  pattern_recognizes : Recognizes b inner (some_in b) (all_in b)
  pattern_recognizes = recognizes b (states_in b) (labels_in b) (start_in b) (finals_in b) (with_zeros most_entries (table_in b)) parts (labels_in_range b sound) (start_below b sound) (table_below b sound)

  -- An answer that goes through unions, and says of one word whether the pattern accepts it, judges the relabelled words.
  judges : {op : Bool → Bool → Bool} (answer : ℕ → Bool) → ((x y : ℕ) → answer (bit_or x y) ≡ op (answer x) (answer y))
      → ((w : Word) → Labels (labels_in b) w → answer (word_value inner w) ≡ accepts b w) → Judges op (judge_in b) admits answer (λ w. IsTrue (accepts b (in_pattern b w)))
  judges answer joins is = relabelled_judges {good = λ w. IsTrue (accepts b w)} (record {
    joins = λ x y _ _. joins x y;
    decides = accepted_decides b (states_in b) (labels_in b) (start_in b) (finals_in b) (with_zeros most_entries (table_in b)) parts (labels_in_range b sound) (start_below b sound) (table_below b sound) answer is;
  })

  -- Whether a set holds state q says of one word whether it leads there, once relabelled.
  judges_state : (q : ℕ) → Judges ◌||◌ (judge_in b) admits (λ set. has set q) (λ w. state_after b (in_pattern b w) ≡ q)
  judges_state q =
      relabelled_judges (holds_judges b (states_in b) (labels_in b) (start_in b) (finals_in b) (with_zeros most_entries (table_in b)) parts (labels_in_range b sound) (start_below b sound) (table_below b sound) q)

  -- The value of each mark of every run says so of its longest flows.
  pub sets_tell : AtMarks (judge_in b) (SetTells b)
  sets_tell n k limit cs u i l e =
      let m = judge_in b in
      let (valued, judged) = marks_judged m admits laws (some_in b) (all_in b) (λ w. IsTrue (accepts b (in_pattern b w)))
      (judges (some_in b) (meets_or (finals_in b)) pattern_recognizes.some_is) (judges (all_in b) (within_or (finals_in b)) pattern_recognizes.all_is) n k limit cs u i l e in (
        valued,
        (
          λ q.
              (let is_held = Decides-eqb (bit valued.answered.value q) 1 in
              let is_reached = Decides-at _ _ (ap (λ (set : ℕ). has set q) valued.value_is)
              (some_decided m admits laws n k limit (accepted_events m n k limit cs) (ranged m admits laws n k limit cs) u i (λ set. has set q) (λ w. state_after b (in_pattern b w) ≡ q) valued.flow valued.flows valued.all (judges_state q)) in
              ((λ x. is_reached.0 (is_held.1 x)), (λ p. is_held.0 (is_reached.1 p)))),
          judged,
        ),
      )
