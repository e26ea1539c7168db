-- What a measure is, its laws, and what it makes of words and of lists of values.
use Rattle.std.specs.Prelude.{◌≡◌, ℕ, ◌<◌, ◌≤◌, Bool, List, [], ◌∷◌, map, nat_lt}
use Rattle.std.specs.List.{AllByRecursion}
use Rattle.measures.specs.Limits.{most_labels}
use Rattle.measures.specs.Words.{Letter, Word, letter_of, label_of, Labels}

-- A measure offers a number of labels, a start value, a step from a value by a letter, and a join of two values.
pub record Meaning (V : Type 0) : Type 0 where
  pub labels : ℕ
  pub start : V
  pub step : V → Letter → V
  pub join : V → V → V

-- l is a letter of the measure: a label below its count
abbrev pub IsLetterOf : {V : Type 0} → Meaning V → Letter → Type 0
IsLetterOf m l = label_of l < m.labels

-- whether a mark of unit u with label l has a letter of the measure
abbrev pub fits : {V : Type 0} → Meaning V → ℕ → ℕ → Bool
fits m u l = nat_lt (label_of (letter_of u l)) m.labels

-- each letter of the word is the measure's
abbrev pub Spelled : {V : Type 0} → Meaning V → Word → Type 0
Spelled m w = Labels m.labels w

-- The laws of a measure, on the values that it admits.
pub record Lawful {V : Type 0} (m : Meaning V) (admits : V → Type 0) : Type 0 where
  pub label_range : (0 < m.labels) × (m.labels ≤ most_labels)
  pub start_admitted : admits m.start
  pub step_admitted : (a : V) (l : Letter) → admits a → admits (m.step a l)
  pub join_admitted : (a b : V) → admits a → admits b → admits (m.join a b)
  -- a letter that is not the measure's leaves the value
  pub unlabelled : (a : V) (l : Letter) → (IsLetterOf m l → ⊥) → m.step a l ≡ a
  pub commutes : (a b : V) → admits a → admits b → m.join a b ≡ m.join b a
  pub associates : (a b c : V) → admits a → admits b → admits c → m.join (m.join a b) c ≡ m.join a (m.join b c)
  pub distributes : (a b : V) (l : Letter) → admits a → admits b → IsLetterOf m l
      → m.step (m.join a b) l ≡ m.join (m.step a l) (m.step b l)

-- v stepped by each letter of a word in turn
abbrev pub word_value_from : {V : Type 0} → Meaning V → V → Word → V
word_value_from m v [] = v
word_value_from m v (l ∷ w) = word_value_from m (m.step v l) w

-- The value of a word is the start, stepped by each letter in turn.
abbrev pub word_value : {V : Type 0} → Meaning V → Word → V
word_value m w = word_value_from m m.start w

-- the join, in turn, of the non-empty list that begins with v
abbrev pub join_of : {V : Type 0} → Meaning V → V → List V → V
join_of m v [] = v
join_of m v (x ∷ xs) = join_of m (m.join v x) xs

-- Stepping the join of any non-empty list of admitted values by each letter of any word is joining what each value is stepped to.
abbrev pub ThroughJoins : {V : Type 0} → Meaning V → (V → Type 0) → Type 0
ThroughJoins {V} m admits =
    (v : V) (vs : List V) (w : Word) → admits v → AllByRecursion admits vs → Spelled m w
    → word_value_from m (join_of m v vs) w ≡ join_of m (word_value_from m v w) (map (λ x. word_value_from m x w) vs)
