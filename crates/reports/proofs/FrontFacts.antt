-- What an accepted pattern and relabelling are: facts on the bytes of an input that has no fault before its recording.
use Rattle.std.proofs.Common.{◌≡◌, ℕ, ◌+◌, ◌*◌, ◌<◌, ◌≤◌, true, List, length, take, drop, get_or, Some, None, Option, nat_le, nat_lt, refl, arith, length-take, length-drop}
use Rattle.std.specs.Option.{option_map, option_or}
use Rattle.std.proofs.lemmas.Bool.{and_parts, leb-true, ltb-true}
use Rattle.measures.specs.Formats.{head_size, states_in, labels_in, start_in, table_in, relabelling_labels_in, with_zeros, first_over, over_fault, table_fault, head_fault, pattern_fault, relabelling_head_fault, relabelling_fault}
use Rattle.measures.specs.Limits.{most_entries, most_labels}
use Rattle.measures.specs.Refusals.{is_count}
use Rattle.measures.proofs.Promises.{below_bound, with_zeros_complete}
use Rattle.reports.specs.declared.faults.Fault.TheVariants.{Pattern, Relabelling}
use Rattle.text.specs.Inputs.{most_bytes}
use Rattle.reports.specs.Reports.{relabelling_at, front_fault}
use Rattle.reports.proofs.QuestionFacts.{ask_parts, or_parts, map_part}

-- Where no entry is a fault, none was found too large.
over_none : (from : ℕ) (o : Option ℕ) → over_fault from o ≡ None → o ≡ None
over_none from None e = refl
over_none from (Some i) e = absurd (cc)

-- A count is from 1 to 64.
is_count-range : (n : ℕ) → is_count n ≡ true → (0 < n) × (n ≤ most_labels)
is_count-range n is = let (some, few) = and_parts (nat_le 1 n) (nat_le n most_labels) is in let at_least = leb-true 1 n some in (omega arith, leb-true n most_labels few)

-- A table without a fault has all of its entries, each below the bound.
pub table_sound : (b : List ℕ) (from count bound : ℕ) → table_fault b from count bound ≡ None
    → (from + count ≤ length b) × ((k : ℕ) → k < count → get_or (take count (drop from b)) k 0 < bound)
table_sound b from count bound none =
    let (reaches, each) = ask_parts (nat_le (from + count) (length b)) _ (over_fault from (first_over bound (take count (drop from b)))) none in
    let fits = leb-true (from + count) (length b) reaches in
    let all : length (take count (drop from b)) ≡ count = simp (length-take, length-drop) (omega arith) in
    (fits, λ k inside. below_bound bound (take count (drop from b)) (over_none from _ each) k (omega arith))

module _ (b : List ℕ) (sound : front_fault b ≡ None) where
  -- The input is not too long, and neither its pattern nor its relabelling has a fault.
  pub front_parts : (nat_le (length b) most_bytes ≡ true) × (pattern_fault b ≡ None) × (relabelling_fault b (relabelling_at b) (labels_in b) ≡ None)
  front_parts =
      let (size, rest) = ask_parts (nat_le (length b) most_bytes) _ (option_or (option_map Pattern (pattern_fault b)) (option_map Relabelling (relabelling_fault b (relabelling_at b) (labels_in b)))) sound in
      let (pattern, relabelling) = or_parts _ _ rest in
      (size, map_part _ _ pattern, map_part _ _ relabelling)

  -- The head and the table of the pattern have none, and the head and the table of the relabelling.
  parts_sound : (head_fault b ≡ None) × (table_fault b head_size (states_in b * labels_in b) (states_in b) ≡ None) × (relabelling_head_fault b (relabelling_at b) ≡ None)
  parts_sound =
      let (size, pattern, relabelling) = front_parts in
      let (head, table) = or_parts (head_fault b) _ pattern in
      (head, table, (or_parts (relabelling_head_fault b (relabelling_at b)) _ relabelling).0)

  -- There are 1 to 64 states and 1 to 64 labels, and the start is a state.
  head_sound : (0 < states_in b) × (states_in b ≤ most_labels) × ((0 < labels_in b) × (labels_in b ≤ most_labels)) × (start_in b < states_in b)
  head_sound =
      let long = (ask_parts _ _ _ parts_sound.0).1 in
      let tag = (ask_parts _ _ _ long).1 in
      let states = ask_parts (is_count (states_in b)) _ _ tag in
      let labels = ask_parts (is_count (labels_in b)) _ _ states.1 in
      let start = ask_parts (nat_lt (start_in b) (states_in b)) _ _ labels.1 in
      let states_range = is_count-range (states_in b) states.0 in
      (states_range.0, states_range.1, is_count-range (labels_in b) labels.0, ltb-true (start_in b) (states_in b) start.0)

  -- There are 1 to 64 labels.
  pub labels_in_range : (0 < labels_in b) × (labels_in b ≤ most_labels)
  labels_in_range = head_sound.2

  -- The start is a state.
  pub start_below : start_in b < states_in b
  start_below = head_sound.3

  -- Each entry of the table is a state.
  pub table_below : (k : ℕ) → k < states_in b * labels_in b → get_or (with_zeros most_entries (table_in b)) k 0 < states_in b
  table_below =
      with_zeros_complete most_entries (states_in b) (states_in b * labels_in b) (table_in b) (with_zeros most_entries (table_in b)) refl
      (table_sound b head_size (states_in b * labels_in b) (states_in b) parts_sound.1).1

  -- The relabelling has 1 to 64 labels.
  pub count_in_range : (0 < relabelling_labels_in b (relabelling_at b)) × (relabelling_labels_in b (relabelling_at b) ≤ most_labels)
  count_in_range =
      let tag = (ask_parts _ _ _ parts_sound.2).1 in
      let long = (ask_parts _ _ _ tag).1 in
      is_count-range (relabelling_labels_in b (relabelling_at b)) (ask_parts (is_count (relabelling_labels_in b (relabelling_at b))) _ _ long).0
