-- Lemmas, and no meaning: an `impl` gives the proof of its trait's laws, and may name only what stands in specs/.
-- A pattern's sets of states keep the laws of measures.
use Rattle.std.specs.Prelude.{ℕ, ◌+◌, ◌*◌, ◌^◌, ◌<◌, ◌≤◌, List, nat_lt, slice_index}
use Rattle.std.proofs.Common.{arith, pow_pos}
use Rattle.std.proofs.Math.Pow.{pow-lt}
use Rattle.std.proofs.lemmas.Nat.{mul-add-lt, or_comm, or_lt}
use Rattle.std.proofs.lemmas.Bool.{cond_both, cond-false, lt-ltb, le-ltb, ltb-true}
use Rattle.bitset.proofs.Promises.{or_assoc, or_pos}
use Rattle.measures.specs.Limits.{most_labels}
use Rattle.measures.specs.Measures.{Lawful}
use Rattle.measures.specs.Automata.{next, state_sets}
use Rattle.measures.specs.ImageLaws.{image_or, image_below, image_pos}

module _ (states labels start : ℕ) (table : List ℕ) (in_range : (0 < labels) × (labels ≤ most_labels)) (begins : start < states) (complete : (k : ℕ) → k < states * labels → slice_index table k < states) where
  pub next_below : (l q : ℕ) → l < labels → q < states → next labels table l q < states
  next_below l q hl hq = complete (q * labels + l) (omega (arith, mul-add-lt q labels l states hq hl))

  pub state_sets_lawful : Lawful (state_sets states labels start table) (λ set. (0 < set) × (set < 2 ^ states))
  state_sets_lawful = record {
    label_range = in_range;
    start_admitted = (pow_pos start, pow-lt begins);
    step_admitted = λ a l ha. cond_both (nat_lt l labels) _ a (λ set. (0 < set) × (set < 2 ^ states))
        (λ t. (image_pos (next labels table l) states a ha.0 ha.1, image_below (next labels table l) states a states (λ q h. next_below l q (ltb-true l labels t) h)))
        (λ _. ha);
    join_admitted = λ a b ha hb. (or_pos a b ha.0, or_lt states a b ha.1 hb.1);
    unlabelled = λ a l h. cond-false (nat_lt l labels) _ a (le-ltb l labels (omega arith));
    commutes = λ a b _ _. or_comm a b;
    associates = λ a b c _ _ _. or_assoc a b c;
    distributes = λ a b l _ _ h. rw (lt-ltb l labels h) (image_or (next labels table l) states a b);
  }
