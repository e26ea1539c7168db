-- The bytes of patterns and of relabellings, and what is wrong with them.
use Rattle.std.specs.Prelude.{◌≡◌, ℕ, ◌+◌, ◌-◌, ◌*◌, ◌^◌, ◌&&◌, List, ◌++◌, length, take, drop, replicate, Some, None, Option, ◌==◌, nat_le, nat_lt, position, slice_index}
use Rattle.std.specs.Option.{option_or}
use Rattle.measures.specs.declared.refusals.Fault.{Fault}
use Rattle.measures.specs.declared.refusals.Refusal.TheVariants.{PatternTooShort, NotAPattern, StateCount, LabelCount, StartState, FinalStates, TableTooShort, EntryTooLarge, NotARelabelling}
use Rattle.measures.specs.Limits.{most_entries}
use Rattle.measures.specs.Refusals.{fault, ask, is_count}

-- the place of the first entry that is not below the bound
abbrev pub first_over : ℕ → List ℕ → Option ℕ
first_over bound xs = position (λ x. nat_le bound x) xs

-- the fault of such an entry, at its byte, in a table that begins at the byte `from`
abbrev pub over_fault : ℕ → Option ℕ → Option Fault
over_fault from None = None
over_fault from (Some i) = Some (fault EntryTooLarge (from + i))

-- What is wrong with a table of `count` entries below a bound that begins at the byte `from` of b:
-- bytes are missing, met at b's length, or an entry is too large, met at the first such byte.
abbrev pub table_fault : List ℕ → ℕ → ℕ → ℕ → Option Fault
table_fault b from count bound =
    ask (nat_le (from + count) (length b)) (fault TableTooShort (length b))
    (over_fault from (first_over bound (take count (drop from b))))

-- eight bytes as a number, the lowest first
abbrev pub little_endian : List ℕ → ℕ
little_endian e =
    slice_index e 0 + slice_index e 1 * 256 + slice_index e 2 * 65536 + slice_index e 3 * 16777216 + slice_index e 4 * 4294967296
    + slice_index e 5 * 1099511627776 + slice_index e 6 * 281474976710656 + slice_index e 7 * 72057594037927936

-- A pattern's bytes are 20 in hexadecimal, the number of states, the number of labels, the start state, eight bytes of final states (bit q for
-- state q), and the table of next states.

-- the first byte of a pattern
abbrev pub pattern_tag : ℕ
pattern_tag = 0x20

-- the number of bytes before its table
abbrev pub head_size : ℕ
head_size = 12

-- the number of states
abbrev pub states_in : List ℕ → ℕ
states_in b = slice_index b 1

-- the number of labels
abbrev pub labels_in : List ℕ → ℕ
labels_in b = slice_index b 2

-- the start state
abbrev pub start_in : List ℕ → ℕ
start_in b = slice_index b 3

-- the set of final states
abbrev pub finals_in : List ℕ → ℕ
finals_in b = little_endian (take 8 (drop 4 b))

-- the next states: a row for each state, with an entry for each label
abbrev pub table_in : List ℕ → List ℕ
table_in b = take (states_in b * labels_in b) (drop head_size b)

-- the number of a pattern's bytes
abbrev pub pattern_size : List ℕ → ℕ
pattern_size b = head_size + states_in b * labels_in b

-- What is wrong with a pattern's first byte, its numbers of states and of labels, its start state and its set of final states.
abbrev pub numbers_fault : ℕ → ℕ → ℕ → ℕ → ℕ → Option Fault
numbers_fault first states labels start finals =
    ask (first == pattern_tag) (fault NotAPattern 0)
    (ask (is_count states) (fault StateCount 1)
    (ask (is_count labels) (fault LabelCount 2)
    (ask (nat_lt start states) (fault StartState 3)
    (ask (nat_lt finals (2 ^ states)) (fault FinalStates 4)
    None))))

-- What is wrong with a pattern's first twelve bytes.
abbrev pub head_fault : List ℕ → Option Fault
head_fault b =
    ask (nat_le head_size (length b)) (fault PatternTooShort (length b))
    (numbers_fault (slice_index b 0) (states_in b) (labels_in b) (start_in b) (finals_in b))

-- What is wrong with a pattern's bytes.
abbrev pub pattern_fault : List ℕ → Option Fault
pattern_fault b = option_or (head_fault b) (table_fault b head_size (states_in b * labels_in b) (states_in b))

-- a table with zeros after its entries, n in all
abbrev pub with_zeros : ℕ → List ℕ → List ℕ
with_zeros n entries = entries ++ replicate (n - length entries) 0

-- The parts of a pattern are those that its bytes b give.
pub record PatternOf (b : List ℕ) (states labels start finals : ℕ) (table : List ℕ) : Type 0 where
  pub states_are : states ≡ states_in b
  pub labels_are : labels ≡ labels_in b
  pub start_is : start ≡ start_in b
  pub finals_are : finals ≡ finals_in b
  pub table_is : table ≡ with_zeros most_entries (table_in b)

-- A relabelling's bytes, from the byte `at` of b on, are 30 in hexadecimal, the number of labels, and an entry for each.

-- the first byte of a relabelling
abbrev pub relabelling_tag : ℕ
relabelling_tag = 0x30

-- the number of labels
abbrev pub relabelling_labels_in : List ℕ → ℕ → ℕ
relabelling_labels_in b at = slice_index b (at + 1)

-- the number of bytes before its entries
abbrev pub relabelling_head_size : ℕ
relabelling_head_size = 2

-- the inner label of each
abbrev pub entries_in : List ℕ → ℕ → List ℕ
entries_in b at = take (relabelling_labels_in b at) (drop (at + relabelling_head_size) b)

-- What is wrong with a relabelling's first two bytes.
abbrev pub relabelling_head_fault : List ℕ → ℕ → Option Fault
relabelling_head_fault b at =
    ask (nat_lt at (length b) && slice_index b at == relabelling_tag) (fault NotARelabelling at)
    (ask (nat_lt (at + 1) (length b)) (fault TableTooShort (length b))
    (ask (is_count (relabelling_labels_in b at)) (fault LabelCount (at + 1))
    None))

-- What is wrong with the bytes of a relabelling to n inner labels.
abbrev pub relabelling_fault : List ℕ → ℕ → ℕ → Option Fault
relabelling_fault b at n =
    option_or (relabelling_head_fault b at)
    (table_fault b (at + relabelling_head_size) (relabelling_labels_in b at) n)
