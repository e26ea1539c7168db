-- What a mark is worth by flags and values that are read.
use Rattle.std.proofs.Common.{◌≡◌, ℕ, zero, suc, ◌<◌, Bool, cond, List, Some, Option, refl, ap, ap₂, ◌∙◌, arith}
use Rattle.history.specs.declared.cells.Cell.{Cell}
use Rattle.causality.specs.Payloads.{Reads}
use Rattle.measures.specs.Measures.{Meaning}
use Rattle.measures.specs.Worths.{plus, flagged_join}
use Rattle.measures.specs.Calls.{flagged_by}

-- what is gathered depends on flags and values alone
flagged_join_same : {V : Type 0} (m : Meaning V) (r t : ℕ → Cell V) (n : ℕ) → ((j : ℕ) → j < n → ((r j).flag ≡ (t j).flag) × ((r j).value ≡ (t j).value)) → flagged_join m r n ≡ flagged_join m t n
flagged_join_same m r t zero e = refl
flagged_join_same {V} m r t (suc n) e =
    let (f, v) = e n (omega arith) in
    let before = flagged_join_same m r t n (λ j h. e j (omega arith)) in
    ap₂ (λ (b : Bool) (x : V). cond b (plus m (flagged_join m r n) (Some x)) (flagged_join m r n)) f v
    ∙ ap (λ (o : Option V). cond (t n).flag (plus m o (Some (t n).value)) o) before

-- so it is that of every row which has these
pub flagged_join_read : {V : Type 0} (m : Meaning V) (n : ℕ) (r : ℕ → Cell V) (set : ℕ) (values : List V) → Reads m.start n r set values → flagged_join m (flagged_by set m.start values) n ≡ flagged_join m r n
flagged_join_read m n r set values reads = flagged_join_same m (flagged_by set m.start values) r n (λ j h. (reads.flags j h, reads.cells j h))
