-- The span.
use Rattle.std.specs.Prelude.{◌≡◌, ℕ, ◌+◌, ◌<◌, ◌≤◌, ◌↔◌, Bool, List, length, min, max, if◌then◌else◌, nat_le, nat_lt}
use Rattle.std.proofs.Common.{rules}
use Rattle.history.specs.Events.{Events, Position}
use Rattle.history.specs.Flows.{Longest}
use Rattle.measures.specs.declared.spans.Lengths.{Lengths}
use Rattle.measures.specs.declared.spans.Span.{Span}
use Rattle.measures.specs.Boards.{AtAnswers}
use Rattle.measures.specs.Limits.{most_labels, most_length}
use Rattle.measures.specs.Measures.{Meaning, Lawful}
use Rattle.measures.specs.Words.{Word}

-- a shortest and a longest number of marks
abbrev pub lengths : ℕ → ℕ → Lengths
lengths a b = record { shortest = a; longest = b }

-- one mark more, up to the cap
abbrev pub longer : ℕ → ℕ
longer k = min (k + 1) most_length

-- The span over n labels: the numbers of marks of the shortest and of the longest flow.
abbrev pub span : ℕ → Meaning Lengths
span n = record {
  labels = n;
  start = lengths 0 0;
  step = λ v l. if nat_lt l n then lengths (longer v.shortest) (longer v.longest) else v;
  join = λ a b. lengths (min a.shortest b.shortest) (max a.longest b.longest);
}

-- a shortest and a longest number, up to the cap
abbrev pub AreLengths : Lengths → Type 0
AreLengths v = (v.shortest ≤ v.longest) × (v.longest ≤ most_length)

-- it keeps the laws on such pairs
pub span_lawful : (n : ℕ) → (0 < n) × (n ≤ most_labels) → Lawful (span n) AreLengths
span_lawful n in_range = search rules

module _ (m : Span) where
  -- the span as a measure
  abbrev pub span_meaning : Meaning Lengths
  span_meaning = span m.labels.number

  pub span_measure_lawful : Lawful span_meaning AreLengths
  span_measure_lawful = span_lawful m.labels.number m.labels.in_range

  -- a word is good if it has at most so many labels
  abbrev pub span_good : Word → Type 0
  span_good w = length w ≤ m.limit

  -- whether the shortest is within the limit
  abbrev pub shortest_within : Lengths → Bool
  shortest_within v = nat_le v.shortest m.limit

  -- whether the longest is
  abbrev pub longest_within : Lengths → Bool
  longest_within v = nat_le v.longest m.limit

-- A judge is the span over so many labels, and holds the shortest and the longest against the limit: a word is good if it has at most so many labels.
pub record IsSpan (labels limit : ℕ) (m : Meaning Lengths) (some all : Lengths → Bool) (good : Word → Type 0) : Type 0 where
  pub meaning_is : m ≡ span labels
  pub some_is : (v : Lengths) → some v ≡ nat_le v.shortest limit
  pub all_is : (v : Lengths) → all v ≡ nat_le v.longest limit
  pub good_is : (w : Word) → good w ↔ (length w ≤ limit)

-- What a span says of the longest flows that end at position i of unit u: the numbers of marks of the shortest and of the longest of them,
-- up to the cap.
pub record Spanned (ev : Events) (u i : ℕ) (v : Lengths) : Type 0 where
  pub shortest : (f : List Position) × Longest ev u i f × (v.shortest ≡ min (length f) most_length)
  pub none_shorter : (f : List Position) → Longest ev u i f → v.shortest ≤ length f
  pub longest : (f : List Position) × Longest ev u i f × (v.longest ≡ min (length f) most_length)
  pub none_longer : (f : List Position) → Longest ev u i f → min (length f) most_length ≤ v.longest

-- So it is of the value answered at each accepted mark of every list of calls.
abbrev pub MarksSpanned : Meaning Lengths → Type 0
MarksSpanned m = AtAnswers m Spanned
