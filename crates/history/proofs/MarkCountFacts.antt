-- How the number of marks grows.
use Rattle.std.proofs.Common.{◌≡◌, ℕ, zero, suc, ◌<◌, ◌≤◌, inl, inr, arith}
use Rattle.std.proofs.lemmas.Bool.{cases_eq}
use Rattle.history.specs.Events.{Events}
use Rattle.history.specs.Marks.{IsMark, marks}

module _ (ev : Events) (v : ℕ) where
  pub marks_mono : (k h : ℕ) → k ≤ h → marks ev v k ≤ marks ev v h
  marks_mono k zero le = grind arith
  marks_mono k (suc h) le = elim (cases_eq k (suc h)) [ inl e ↦ rw e (omega arith) | inr d ↦ omega (arith, marks_mono k h (omega arith)) ]

  pub marks_mark : (k : ℕ) → IsMark ev v k → marks ev v (suc k) ≡ suc (marks ev v k)
  marks_mark k (l, e) = rw e (omega arith)

  pub marks_strict : (p k : ℕ) → IsMark ev v p → p < k → marks ev v p < marks ev v k
  marks_strict p k m lt = omega (arith, marks_mark p m, marks_mono (suc p) k lt)
