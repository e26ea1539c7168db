-- The value of a word: both answers are yes if it contains the waypoint, and no if not.
use Rattle.std.proofs.Common.{◌≡◌, ℕ, Bool, true, false, [], ◌∷◌, ◌==◌, ◌||◌, ◌↔◌, if◌then◌else◌, Contains, IsTrue, refl, ap, ◌∙◌, subst, rules, slice_index_or}
use Rattle.std.proofs.lemmas.Bool.{eqb-true, eq-eqb}
use Rattle.std.proofs.lemmas.List.Folds.{Any-from_list_any, list_any-from_Any}
use Rattle.std.specs.Prelude.{⊤}
use Rattle.std.specs.List.{list_any}
use Rattle.measures.specs.Judges.{Judges}
use Rattle.measures.specs.Measures.{word_value, word_value_from}
use Rattle.measures.specs.Words.{Word}
use Rattle.waypoint.specs.declared.Passages.{Passages}
use Rattle.waypoint.specs.Waypoints.{passages, waypoint}

-- every flow passes
abbrev yes : Passages
yes = passages true true

module _ (n label : ℕ) where
  -- whether a word contains the waypoint
  abbrev has : Word → Bool
  has w = list_any (λ l. l == label) w

  -- The test finds the label only where it is.
  contains_from_has : (w : Word) → has w ≡ true → Contains w label
  contains_from_has w t =
      let found = Any-from_list_any (λ l. l == label) w t in
      let is : found.1 ≡ label = eqb-true found.1 label found.4 in
      (found.0, found.2, subst (λ x. slice_index_or w found.0 x ≡ x) is found.3)

  -- And it finds it wherever it is.
  has_from_contains : (w : Word) → Contains w label → has w ≡ true
  has_from_contains w c = list_any-from_Any (λ l. l == label) w (c.0, label, c.1, c.2, eq-eqb label label refl)

  -- The waypoint, once passed, stays so; a word without it leaves the value.
  word_value_passages : (v : Passages) (w : Word)
      → word_value_from (waypoint n label) v w ≡ (if has w then yes else v)
  word_value_passages v [] = refl
  word_value_passages v (l ∷ w) =
      by_test (l == label) (has w) (word_value_passages v w) (word_value_passages yes w)
    where
      by_test : (here later : Bool)
          → word_value_from (waypoint n label) v w ≡ (if later then yes else v)
          → word_value_from (waypoint n label) yes w ≡ (if later then yes else yes)
          → word_value_from (waypoint n label) (if here then yes else v) w ≡ (if here || later then yes else v)
      by_test true true kept passed = passed
      by_test true false kept passed = passed
      by_test false later kept passed = kept

  -- An answer that is no at the start, yes once the waypoint is passed, and goes through joins,
  -- says whether a word contains it.
  pub answers_judge : (op : Bool → Bool → Bool) (answer : Passages → Bool)
      → answer (passages false false) ≡ false → answer yes ≡ true
      → ((a b : Passages) → answer ((waypoint n label).join a b) ≡ op (answer a) (answer b))
      → Judges op (waypoint n label) (λ _. ⊤) answer (λ w. Contains w label)
  answers_judge op answer not_yet passed joins = record {
    joins = λ a b _ _. joins a b;
    decides = λ l w _. decided (l ∷ w);
  }
    where
      answer_is : (t : Bool) → answer (if t then yes else passages false false) ≡ t
      answer_is true = passed
      answer_is false = not_yet

      word_value_answer : (w : Word) → answer (word_value (waypoint n label) w) ≡ has w
      word_value_answer w = ap answer (word_value_passages (passages false false) w) ∙ answer_is (has w)

      decided : (w : Word) → IsTrue (answer (word_value (waypoint n label) w)) ↔ Contains w label
      decided w = rw (word_value_answer w) (search (rules, contains_from_has, has_from_contains))
