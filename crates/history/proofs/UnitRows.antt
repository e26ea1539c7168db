-- The row of a unit after a number of its events, by the events alone.
use Rattle.std.proofs.Common.{◌≡◌, ℕ, suc, Some}
use Rattle.history.specs.Events.{Events}
use Rattle.history.specs.declared.calls.Event.TheVariants.{Mark, Receive, Send}
use Rattle.history.specs.Rows.{Payload, new_row, merge_row, mark_row}
use Rattle.history.specs.declared.cells.Cell.{Cell}

module _ {V : Type 0} (M : Payload V) where
  -- r is the row of unit u after its first i events
  pub data Row (ev : Events) : ℕ → ℕ → (ℕ → Cell V) → Type 0 where
    new : {u i : ℕ} {r : ℕ → Cell V} → i ≡ 0 → r ≡ new_row M.start → Row ev u i r
    sent : {u i : ℕ} {r : ℕ → Cell V} (k m : ℕ) → i ≡ suc k → ev u k ≡ Some (Send m) → Row ev u k r → Row ev u i r
    received : {u i : ℕ} {r : ℕ → Cell V} (k m w j : ℕ) (p q : ℕ → Cell V)
        → i ≡ suc k → ev u k ≡ Some (Receive m) → ev w j ≡ Some (Send m) → Row ev u k p → Row ev w j q → r ≡ merge_row M.start p q → Row ev u i r
    marked : {u i : ℕ} {r : ℕ → Cell V} (k l : ℕ) (p : ℕ → Cell V)
        → i ≡ suc k → ev u k ≡ Some (Mark l) → Row ev u k p → r ≡ mark_row M u l p → Row ev u i r
