-- Relabellings.
use Rattle.std.specs.Prelude.{◌≡◌, ℕ, ◌+◌, if◌then◌else◌, List, map, nat_lt, slice_index}
use Rattle.measures.specs.declared.relabellings.Relabelling.{Relabelling}
use Rattle.measures.specs.Formats.{entries_in, relabelling_head_size, relabelling_labels_in, with_zeros}
use Rattle.measures.specs.Limits.{most_labels}
use Rattle.measures.specs.Measures.{Meaning}
use Rattle.measures.specs.Words.{Letter, Word}

-- the inner label of l: its entry, or 0 where that is none of the n inner labels
abbrev pub inner_label : List ℕ → ℕ → Letter → Letter
inner_label entries n l = if nat_lt (slice_index entries l) n then slice_index entries l else 0

-- a word with each label translated
abbrev pub translation : List ℕ → ℕ → Word → Word
translation entries n w = map (inner_label entries n) w

-- The inner measure m under `count` labels of its own, each stepping by its inner label.
abbrev pub relabelling : {V : Type 0} → List ℕ → ℕ → Meaning V → Meaning V
relabelling entries count m = record {
  labels = count;
  start = m.start;
  step = λ v l. if nat_lt l count then m.step v (inner_label entries m.labels l) else v;
  join = m.join;
}

module _ {M V : Type 0} where
  -- the measure that it relabels
  abbrev pub inner_of : Relabelling M V → M
  inner_of r = r.inner

  -- the relabelling as a measure, by what the inner one means
  abbrev pub relabelling_meaning : (M → Meaning V) → Relabelling M V → Meaning V
  relabelling_meaning meaning r = relabelling r.table.entries r.table.count.number (meaning r.inner)

  -- a word in the labels of the inner measure
  abbrev pub inner_word : (M → Meaning V) → Relabelling M V → Word → Word
  inner_word meaning r w = translation r.table.entries (meaning r.inner).labels w

  -- the number of bytes that it was read from: the tag, the count, and an entry for each label
  abbrev pub relabelling_size : Relabelling M V → ℕ
  relabelling_size r = relabelling_head_size + r.table.count.number

  -- The parts of a relabelling are the inner measure that it was made with, and those that the bytes b give from the byte `at` on.
  pub record IsRelabellingOf (b : List ℕ) (at : ℕ) (inner : M) (r : Relabelling M V) : Type 0 where
    pub labels_are : r.table.count.number ≡ relabelling_labels_in b at
    pub entries_are : r.table.entries ≡ with_zeros most_labels (entries_in b at)
    pub inner_is : r.inner ≡ inner
