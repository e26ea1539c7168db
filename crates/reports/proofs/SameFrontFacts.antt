-- Inputs that agree on the bytes before the recording of the one have the same pattern and relabelling, and the same judge; and if nothing is wrong
-- with the front of the one, nothing is with the other's. A part of an input that reaches past these bytes is a case.
-- Each number that the formats read stands at a byte below the recording, or in a run of them, so it is the same in both. What a reader asks
-- are questions about these numbers and about the length, so they have the same answers.
use Rattle.std.proofs.Common.{◌≡◌, ℕ, ◌+◌, ◌*◌, ◌<◌, ◌≤◌, Bool, true, ◌&&◌, List, length, drop, take, None, nat_le, sym, ap, subst, ◌∙◌, arith, ◌==◌, nat_lt, slice_index}
use Rattle.std.specs.Option.{option_map}
use Rattle.std.proofs.lemmas.Bool.Decides.{nat_tests}
use Rattle.bitset.specs.Sets.{meets, within}
use Rattle.measures.specs.declared.refusals.Refusal.TheVariants.{LabelCount}
use Rattle.measures.specs.Automata.{state_sets}
use Rattle.measures.specs.Formats.{relabelling_tag, head_size, relabelling_head_size, first_over, over_fault, table_fault, little_endian, states_in, labels_in, start_in, finals_in, table_in, numbers_fault, head_fault, pattern_fault, relabelling_labels_in, entries_in, relabelling_head_fault, relabelling_fault, with_zeros}
use Rattle.measures.specs.Limits.{most_entries, most_labels}
use Rattle.measures.specs.Measures.{Meaning}
use Rattle.measures.specs.Refusals.{fault, ask, is_count}
use Rattle.measures.specs.Relabellings.{relabelling}
use Rattle.text.specs.Inputs.{most_bytes}
use Rattle.reports.specs.declared.faults.Fault.TheVariants.{Pattern, Relabelling}
use Rattle.reports.specs.Reports.{relabelling_at, recording_at, front_fault, judge_in, some_in, all_in}
use Rattle.reports.specs.Laws.{SameFront}
use Rattle.reports.proofs.QuestionFacts.{ask_parts, ask_none, or_parts, or_none}
use Rattle.reports.proofs.FrontFacts.{front_parts, table_sound}
use Rattle.reports.proofs.PrefixFacts.{AgreeTo, take_shorter, same_byte, same_bytes, reaches_too}

-- whether a byte is there and begins a relabelling, of one that is there and is the same
begins_same : (at m n x y : ℕ) → at < n → x ≡ y → (nat_lt at m && y == relabelling_tag) ≡ true → (nat_lt at n && x == relabelling_tag) ≡ true
begins_same at m n x y inside same begins = grind (arith, nat_tests)

-- an input with an accepted front reaches to its recording
pub front_within : (b : List ℕ) → front_fault b ≡ None → recording_at b ≤ length b
front_within b sound =
    let at = relabelling_at b in
    let table = (or_parts (relabelling_head_fault b at) (table_fault b (at + relabelling_head_size) (relabelling_labels_in b at) (labels_in b)) (front_parts b sound).2).1 in
    let fits = (table_sound b (at + relabelling_head_size) (relabelling_labels_in b at) (labels_in b) table).0 in
    omega arith

module _ (b d : List ℕ) (p : ℕ) (agree : AgreeTo p b d) (within_b : p ≤ length b) where
  -- A table that lies in the bytes that agree is as good in the other input.
  table_kept : (from count bound : ℕ) → from + count ≤ p → table_fault b from count bound ≡ None → table_fault d from count bound ≡ None
  table_kept from count bound inside none =
      let within_d = reaches_too p b d agree within_b in
      ask_none _ _ _ (grind (arith, nat_tests))
      (ap (λ (xs : List ℕ). over_fault from (first_over bound xs)) (same_bytes p b d agree from count inside) ∙ (ask_parts _ _ _ none).1)

  -- So are the first two bytes of a relabelling,
  relabelling_head_kept : (at : ℕ) → at + 1 < p → relabelling_head_fault b at ≡ None → relabelling_head_fault d at ≡ None
  relabelling_head_kept at inside none =
      let within_d = reaches_too p b d agree within_b in
      let tag = ask_parts (nat_lt at (length b) && slice_index b at == relabelling_tag) _ _ none in
      ask_none _ _ _ (begins_same at (length b) (length d) (slice_index d at) (slice_index b at) (omega arith) (same_byte p b d agree at (omega arith)) tag.0)
      (ask_none _ _ _ (grind (arith, nat_tests)) (ap (λ (c : ℕ). ask (is_count c) (fault LabelCount (at + 1)) None) (same_byte p b d agree (at + 1) inside) ∙ (ask_parts _ _ _ tag.1).1))

  -- and the whole of it.
  relabelling_kept : (at n : ℕ) → at + relabelling_head_size + relabelling_labels_in b at ≤ p → relabelling_fault b at n ≡ None → relabelling_fault d at n ≡ None
  relabelling_kept at n inside none =
      let (head, table) = or_parts (relabelling_head_fault b at) (table_fault b (at + relabelling_head_size) (relabelling_labels_in b at) n) none in
      or_none _ _ (relabelling_head_kept at (omega arith) head)
      (subst (λ (c : ℕ). table_fault d (at + relabelling_head_size) c n ≡ None) (sym (same_byte p b d agree (at + 1) (omega arith))) (table_kept (at + relabelling_head_size) (relabelling_labels_in b at) n inside table))

-- the same numbers are as good
head_same : (a c s t l m i j f g : ℕ) → a ≡ c → s ≡ t → l ≡ m → i ≡ j → f ≡ g → numbers_fault a s l i f ≡ None → numbers_fault c t m j g ≡ None
head_same a c s t l m i j f g x y z w v none = rw (← x, ← y, ← z, ← w, ← v) none

-- the measure of a pattern under a relabelling, by their parts
judge_of : (states labels start : ℕ) (table : List ℕ) (count : ℕ) (entries : List ℕ) → Meaning ℕ
judge_of states labels start table count entries = relabelling (with_zeros most_labels entries) count (state_sets states labels start (with_zeros most_entries table))

-- equal parts, equal measures
same_parts : {states states' labels labels' start start' count count' : ℕ} {table table' entries entries' : List ℕ}
    → states ≡ states' → labels ≡ labels' → start ≡ start' → table ≡ table' → count ≡ count' → entries ≡ entries'
    → judge_of states labels start table count entries ≡ judge_of states' labels' start' table' count' entries'
same_parts a b c d e f = cc

-- The judges of two inputs are one.
pub record SameJudge (b d : List ℕ) : Type 0 where
  pub meaning : judge_in b ≡ judge_in d
  pub some : some_in b ≡ some_in d
  pub all : all_in b ≡ all_in d

-- Inputs that agree on the bytes before the recording of the first.
module _ (b d : List ℕ) (p : ℕ) (agree : AgreeTo p b d) (reaches : recording_at b ≤ p) where
  -- Each part of the front is the same.
  same_states : states_in b ≡ states_in d
  same_states = sym (same_byte p b d agree 1 (omega arith))

  same_labels : labels_in b ≡ labels_in d
  same_labels = sym (same_byte p b d agree 2 (omega arith))

  same_start : start_in b ≡ start_in d
  same_start = sym (same_byte p b d agree 3 (omega arith))

  same_finals : finals_in b ≡ finals_in d
  same_finals = sym (ap little_endian (same_bytes p b d agree 4 8 (omega arith)))

  same_size : states_in b * labels_in b ≡ states_in d * labels_in d
  same_size = ap (λ (n : ℕ). n * labels_in b) same_states ∙ ap (λ (n : ℕ). states_in d * n) same_labels

  same_table : table_in b ≡ table_in d
  same_table = sym (same_bytes p b d agree head_size (states_in b * labels_in b) (omega arith)) ∙ ap (λ (n : ℕ). take n (drop head_size d)) same_size

  -- The relabelling begins at the same byte,
  same_at : relabelling_at b ≡ relabelling_at d
  same_at = ap (λ (n : ℕ). head_size + n) same_size

  same_count : relabelling_labels_in b (relabelling_at b) ≡ relabelling_labels_in d (relabelling_at d)
  same_count = sym (same_byte p b d agree (relabelling_at b + 1) (omega arith)) ∙ ap (relabelling_labels_in d) same_at

  same_entries : entries_in b (relabelling_at b) ≡ entries_in d (relabelling_at d)
  same_entries =
      sym (same_bytes p b d agree (relabelling_at b + relabelling_head_size) (relabelling_labels_in b (relabelling_at b)) (omega arith))
      ∙ ap (λ (n : ℕ). take n (drop (relabelling_at b + relabelling_head_size) d)) same_count
      ∙ ap (λ (n : ℕ). take (relabelling_labels_in d (relabelling_at d)) (drop (n + relabelling_head_size) d)) same_at

  -- and so does the recording.
  pub same_recording_at : recording_at b ≡ recording_at d
  same_recording_at = ap (λ (n : ℕ). n + (relabelling_head_size + relabelling_labels_in b (relabelling_at b))) same_at ∙ ap (λ (n : ℕ). relabelling_at d + (relabelling_head_size + n)) same_count

  -- The judge is the same.
  pub same_judge : SameJudge b d
  unfolding judge_of
  same_judge = record {
    meaning = same_parts same_states same_labels same_start same_table same_count same_entries;
    some = ap {B = ℕ → Bool} (λ (f : ℕ). λ (set : ℕ). meets set f) same_finals;
    all = ap {B = ℕ → Bool} (λ (f : ℕ). λ (set : ℕ). within set f) same_finals;
  }

  -- The front is the same.
  pub same_front : SameFront b d
  same_front = record {
    begins = same_recording_at;
    bytes = take_shorter b d (recording_at b) p reaches agree.bytes ∙ ap (λ (n : ℕ). take n d) same_recording_at;
  }

  module _ (within_b : p ≤ length b) where
    -- The pattern and the relabelling of the other input are as good.
    head_kept : head_fault b ≡ None → head_fault d ≡ None
    head_kept none =
        let within_d = reaches_too p b d agree within_b in
        ask_none _ _ _ (grind (arith, nat_tests)) (head_same _ _ _ _ _ _ _ _ _ _ (sym (same_byte p b d agree 0 (omega arith))) same_states same_labels same_start same_finals
        (ask_parts _ _ (numbers_fault (slice_index b 0) (states_in b) (labels_in b) (start_in b) (finals_in b)) none).1)

    pattern_kept : pattern_fault b ≡ None → pattern_fault d ≡ None
    pattern_kept none =
        let (head, table) = or_parts (head_fault b) (table_fault b head_size (states_in b * labels_in b) (states_in b)) none in
        or_none _ _ (head_kept head)
        (subst (λ (n : ℕ). table_fault d head_size (states_in d * labels_in d) n ≡ None) same_states
        (subst (λ (n : ℕ). table_fault d head_size n (states_in b) ≡ None) same_size
        (table_kept b d p agree within_b head_size (states_in b * labels_in b) (states_in b) (omega arith) table)))

    relabels_kept : relabelling_fault b (relabelling_at b) (labels_in b) ≡ None → relabelling_fault d (relabelling_at d) (labels_in d) ≡ None
    relabels_kept none =
        subst (λ (at : ℕ). relabelling_fault d at (labels_in d) ≡ None) same_at
        (subst (λ (n : ℕ). relabelling_fault d (relabelling_at b) n ≡ None) same_labels
        (relabelling_kept b d p agree within_b (relabelling_at b) (labels_in b) (omega arith) none))

    -- Nothing is wrong with the front of the other input, if it is not too long and nothing is wrong with this one's.
    pub front_kept : nat_le (length d) most_bytes ≡ true → front_fault b ≡ None → front_fault d ≡ None
    front_kept short none =
        let (size, pattern, relabelling) = front_parts b none in
        ask_none _ _ _ short (or_none _ _ (ap (option_map Pattern) (pattern_kept pattern)) (ap (option_map Relabelling) (relabels_kept relabelling)))

-- Inputs with the same front agree on the bytes before the recording, and so have the same judge.
pub agree_front : (b d : List ℕ) → SameFront b d → AgreeTo (recording_at b) b d
agree_front b d same = record { bytes = same.bytes ∙ ap (λ (n : ℕ). take n d) (sym same.begins) }

pub front_judge : (b d : List ℕ) → SameFront b d → SameJudge b d
front_judge b d same = same_judge b d (recording_at b) (agree_front b d same) (omega arith)
