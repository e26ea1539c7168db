-- The theorems of this crate that other crates may cite: runs under a measure, the judges of patterns and relabellings, and tables
-- and calls as they are gone through.
use Rattle.std.specs.Prelude.{◌≡◌, ℕ, ◌*◌, ◌^◌, ◌<◌, ◌≤◌, Bool, true, ◌&&◌, ◌||◌, ◌↔◌, List, ◌∷◌, length, None, Decides, IsTrue, bit_or}
use Rattle.std.proofs.Common.{get_or}
use Rattle.bitset.specs.Sets.{has, meets, within}
use Rattle.causality.specs.Boards.{Memory, SameBeyond, SameLoans, has_room}
use Rattle.history.specs.Counting.{Exactly}
use Rattle.history.specs.Events.{Events, Position}
use Rattle.history.specs.Flows.{Longest, word}
use Rattle.history.specs.Runs.{Ranged}
use Rattle.history.specs.declared.calls.Call.{Call}
use Rattle.measures.specs.Acceptance.{state_after, accepts, Recognizes}
use Rattle.measures.specs.Automata.{state_sets}
use Rattle.measures.specs.Formats.{PatternOf, labels_in, with_zeros, first_over}
use Rattle.measures.specs.Judges.{Judges}
use Rattle.measures.specs.Laws.{join_over, accepted_events, MarksJudged, LawOfRuns}
use Rattle.measures.specs.Limits.{most_labels}
use Rattle.measures.specs.Measures.{Meaning, Lawful, Spelled, word_value}
use Rattle.measures.specs.Relabellings.{translation, relabelling}
use Rattle.measures.specs.Words.{Letter, Word, Labels}
use Rattle.measures.specs.Worths.{measured_size}
use Rattle.measures.proofs.AcceptanceFacts
use Rattle.measures.proofs.JudgeFacts
use Rattle.measures.proofs.PlayFacts
use Rattle.measures.proofs.ReachFacts
use Rattle.measures.proofs.TableFacts
use Rattle.measures.proofs.PatternFacts
use Rattle.measures.proofs.TranslationFacts
use Rattle.measures.proofs.ValueFacts
-- The sets of states of an automaton whose table is complete are a lawful measure, on the non-empty sets.
pub use Rattle.measures.specs.StateSetLaws.{state_sets_lawful}
-- A relabelled measure keeps the laws where the inner one does.
pub use Rattle.measures.specs.RelabellingLaws.{relabelling_lawful}

-- ---- Runs under a measure

-- Under every lawful measure each accepted mark was answered the join along the longest flows that end there, and nothing depends on the
-- order in which units act.
pub law_of_runs : {V : Type 0} (m : Meaning V) (admits : V → Type 0) → Lawful m admits → LawOfRuns m
law_of_runs m admits laws = ValueFacts.law_of_runs m admits laws

-- The accepted marks are made by units of the board, with labels of the measure.
pub ranged : {V : Type 0} (m : Meaning V) (admits : V → Type 0) → Lawful m admits → (n k limit : ℕ) (cs : List Call)
    → Ranged (accepted_events m n k limit cs) (measured_size m n k limit)
ranged m admits laws n k limit cs = ValueFacts.ranged m admits laws n k limit cs

-- A judge's two answers to the value of an accepted mark say whether some, and whether all, of the longest flows there are good.
pub marks_judged : {V : Type 0} (m : Meaning V) (admits : V → Type 0) → Lawful m admits → (some all : V → Bool) (good : Word → Type 0)
    → Judges ◌||◌ m admits some good → Judges ◌&&◌ m admits all good → MarksJudged m some all good
marks_judged m admits laws some all good = JudgeFacts.marks_judged m admits laws some all good

-- An answer that goes through joins by or says of the join along all longest flows to a mark whether one of them is good.
pub some_decided : {V : Type 0} (m : Meaning V) (admits : V → Type 0) → Lawful m admits → (n k limit : ℕ) (ev : Events) → Ranged ev (measured_size m n k limit)
    → (u i : ℕ) (answer : V → Bool) (good : Word → Type 0) (f : List Position) (fs : List (List Position)) → Exactly (Longest ev u i) (f ∷ fs)
    → Judges ◌||◌ m admits answer good → Decides (answer (join_over m ev f fs)) ((g : List Position) × Longest ev u i g × good (word ev g))
some_decided m admits laws n k limit ev rg u i answer good f fs all = JudgeFacts.some_decided m admits laws n k limit ev rg u i answer good f fs all

-- ---- Judges of patterns and of relabellings

-- A union of two sets has a member in common with f exactly when one of them has.
pub meets_or : (f a b : ℕ) → meets (bit_or a b) f ≡ (meets a f || meets b f)
meets_or f a b = AcceptanceFacts.meets_or f a b

-- A union of two sets is within f exactly when both are.
pub within_or : (f a b : ℕ) → within (bit_or a b) f ≡ (within a f && within b f)
within_or f a b = AcceptanceFacts.within_or f a b

-- What follows is of an automaton whose parts the bytes b state, and whose table is complete.
module _ (b : List ℕ) (states labels start finals : ℕ) (table : List ℕ) (parts : PatternOf b states labels start finals table)
    (in_range : (0 < labels) × (labels ≤ most_labels)) (begins : start < states) (complete : (k : ℕ) → k < states * labels → get_or table k 0 < states) where
  -- Its sets of states recognize the words that the bytes accept.
  pub recognizes : Recognizes b (state_sets states labels start table) (λ set. meets set finals) (λ set. within set finals)
  recognizes = PatternFacts.recognizes b states labels start finals table parts in_range begins complete

  -- Whether a set holds state q goes through unions, and says of the set of one word whether the word leads to q.
  pub holds_judges : (q : ℕ) → Judges ◌||◌ (state_sets states labels start table) (λ set. (0 < set) × (set < 2 ^ states)) (λ set. has set q) (λ w. state_after b w ≡ q)
  holds_judges q = ReachFacts.holds_judges b states labels start finals table parts in_range begins complete q

  -- An answer that equals acceptance on the sets of words decides, on the set of a word that is not empty, whether it is accepted.
  pub accepted_decides : (answer : ℕ → Bool) → ((w : Word) → Labels (labels_in b) w → answer (word_value (state_sets states labels start table) w) ≡ accepts b w)
      → (l : Letter) (w : Word) → Spelled (state_sets states labels start table) (l ∷ w)
      → IsTrue (answer (word_value (state_sets states labels start table) (l ∷ w))) ↔ IsTrue (accepts b (l ∷ w))
  accepted_decides answer is l w = ReachFacts.accepted_decides b states labels start finals table parts in_range begins complete answer is l w

-- What judges the words of a measure judges, under the relabelled measure, the translated words.
pub translated_judges : {V : Type 0} (entries : List ℕ) (count : ℕ) (m : Meaning V) → 0 < m.labels
    → {op : Bool → Bool → Bool} {admits : V → Type 0} {answer : V → Bool} {good : Word → Type 0}
    → Judges op m admits answer good → Judges op (relabelling entries count m) admits answer (λ w. good (translation entries m.labels w))
translated_judges entries count m some judge = TranslationFacts.translated_judges entries count m some judge

-- ---- Tables, and calls one by one

-- Where a table has no entry that reaches the bound, each of its entries is below the bound.
pub below_bound : (bound : ℕ) (xs : List ℕ) → first_over bound xs ≡ None → (k : ℕ) → k < length xs → get_or xs k 0 < bound
below_bound bound xs none = TableFacts.below_bound bound xs none

-- Zeros after a table leave its entries below the bound.
pub with_zeros_complete : (n bound count : ℕ) (t table : List ℕ) → table ≡ with_zeros n t → ((k : ℕ) → k < count → get_or t k 0 < bound)
    → (k : ℕ) → k < count → get_or table k 0 < bound
with_zeros_complete n bound count t table is below = PatternFacts.with_zeros_complete n bound count t table is below

-- A call that keeps the loans of a board's memory, and what lies beyond the board, keeps its room.
pub room_kept : {V : Type 0} (start : V) (n k : ℕ) (old new : Memory V) → SameLoans old new → SameBeyond start n k old new
    → has_room n k old ≡ true → has_room n k new ≡ true
room_kept start n k old new = PlayFacts.room_kept start n k old new
