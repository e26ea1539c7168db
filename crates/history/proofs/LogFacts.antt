-- Logs that grow at their end.
use Rattle.std.proofs.Common.{◌≡◌, ℕ, suc, ◌⊎◌, List, length, Some, arith}
use Rattle.std.proofs.lemmas.Grind.{common_steps}
use Rattle.std.proofs.lemmas.List.{places}
use Rattle.std.proofs.lemmas.Option.{gets}
use Rattle.history.specs.Events.{at}
use Rattle.history.specs.Rows.{put}
use Rattle.history.specs.Runs.{with_entry}

module _ {A : Type 0} (f : ℕ → A) (u : ℕ) (x : A) where
  pub put_cases : (j : ℕ) → ((j ≡ u) × (put f u x j ≡ x)) ⊎ ((j ≡ u → ⊥) × (put f u x j ≡ f j))
  put_cases j = grind arith

module _ {A : Type 0} (logs : ℕ → List A) (u : ℕ) (x : A) where
  pub entry_length : length (with_entry logs u x u) ≡ suc (length (logs u))
  entry_length = grind (arith, common_steps)

  pub entry_other : (w : ℕ) → (w ≡ u → ⊥) → with_entry logs u x w ≡ logs w
  entry_other w d = grind arith

  pub entry_here : at (with_entry logs u x) u (length (logs u)) ≡ Some x
  entry_here = grind (arith, gets, places)

  pub entry_keeps : (w i : ℕ) (e : A) → at logs w i ≡ Some e → at (with_entry logs u x) w i ≡ Some e
  entry_keeps w i e p = grind (arith, gets, places)

  pub entry_cases : (w i : ℕ) (e : A) → at (with_entry logs u x) w i ≡ Some e → ((w ≡ u) × (i ≡ length (logs u)) × (x ≡ e)) ⊎ (at logs w i ≡ Some e)
  entry_cases w i e p = grind (arith, gets, places)
