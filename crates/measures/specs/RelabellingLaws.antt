-- Lemmas, and no meaning: an `impl` gives the proof of its trait's laws, and may name only what stands in specs/.
-- A relabelled measure keeps the laws of measures where the inner one does.
use Rattle.std.specs.Prelude.{ℕ, ◌<◌, ◌≤◌, List, nat_lt, slice_index}
use Rattle.std.proofs.Common.{arith}
use Rattle.std.proofs.lemmas.Bool.{lt-ltb, le-ltb, ltb-true, cond-false, cond_both}
use Rattle.measures.specs.Limits.{most_labels}
use Rattle.measures.specs.Words.{Letter}
use Rattle.measures.specs.Measures.{Meaning, Lawful}
use Rattle.measures.specs.declared.relabellings.Relabelling.{Relabelling}
use Rattle.measures.specs.Relabellings.{inner_label, relabelling, relabelling_meaning}

module _ (entries : List ℕ) (n : ℕ) (some : 0 < n) where
  pub inner_label_below : (l : Letter) → inner_label entries n l < n
  inner_label_below l = cond_both (nat_lt (slice_index entries l) n) (slice_index entries l) 0 (λ x. x < n) (ltb-true (slice_index entries l) n) (λ _. some)

module _ {V : Type 0} (entries : List ℕ) (count : ℕ) (m : Meaning V) where
  -- the laws, from those of the inner measure alone
  pub relabelling_lawful : (0 < count) × (count ≤ most_labels) → {admits : V → Type 0} → Lawful m admits → Lawful (relabelling entries count m) admits
  relabelling_lawful in_range {admits} laws = record {
    label_range = in_range;
    start_admitted = laws.start_admitted;
    step_admitted = λ a l ha. cond_both (nat_lt l count) (m.step a (inner_label entries m.labels l)) a admits (λ _. laws.step_admitted a (inner_label entries m.labels l) ha) (λ _. ha);
    join_admitted = laws.join_admitted;
    unlabelled = λ a l h. cond-false (nat_lt l count) _ a (le-ltb l count (omega arith));
    commutes = laws.commutes;
    associates = laws.associates;
    distributes = λ a b l ha hb h.
        let below = inner_label_below entries m.labels laws.label_range.0 l in
        rw (lt-ltb l count h) (laws.distributes a b (inner_label entries m.labels l) ha hb below);
  }

-- so a relabelling is lawful on what its inner measure admits
pub relabelled_lawful : {M V : Type 0} (meaning : M → Meaning V) {admits : V → Type 0} (r : Relabelling M V) → Lawful (meaning r.inner) admits → Lawful (relabelling_meaning meaning r) admits
relabelled_lawful meaning r laws = relabelling_lawful r.table.entries r.table.count.number (meaning r.inner) r.table.count.in_range laws
