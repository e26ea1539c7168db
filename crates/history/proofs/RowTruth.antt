-- What holds of a unit's row after each number of its events.
use Rattle.std.proofs.Common.{◌≡◌, ℕ, suc, ◌⊎◌, Some, inl, inr, ⊎_elim, arith}
use Rattle.history.specs.Events.{Events}
use Rattle.history.specs.declared.calls.Event.TheVariants.{Receive, Send}
use Rattle.history.specs.Marks.{marks}
use Rattle.history.specs.declared.cells.Cell.{Cell}
use Rattle.history.proofs.PastFacts.{Past, AtOrPast, own, got, past_more, past_trans, past_last, past_quiet}
use Rattle.history.proofs.CellTruth.{PositionSet, Either, Closed, Same, Truthful}
use Rattle.history.proofs.CoverFacts.{Covered}

-- the positions in the past of unit u after its first i events
abbrev pub Known : Events → ℕ → ℕ → PositionSet
Known ev u i v p = Past ev v p u i

-- A message is sent once.
abbrev pub Once : Events → Type 0
Once ev = (m u i v j : ℕ) → ev u i ≡ Some (Send m) → ev v j ≡ Some (Send m) → (u ≡ v) × (i ≡ j)

-- What holds of the row r of unit u after its first i events.
pub record Holds {V : Type 0} (ev : Events) (start : V) (W : ℕ → ℕ → V → Type 0) (u i : ℕ) (r : ℕ → Cell V) : Type 0 where
  pub cells : (v : ℕ) → Truthful ev start W (Known ev u i) v (r v)
  -- each known mark is a top, or before one
  pub cover : Covered ev (Known ev u i)
  -- the own clock counts the own marks
  pub mine : (r u).clock ≡ marks ev u i
  -- no event of the unit that is still to come is in its past
  pub apart : Past ev u i u i → ⊥

module _ (ev : Events) where
  pub known_closed : (u i : ℕ) → Closed ev (Known ev u i)
  known_closed u i v p w k s h = past_trans ev h s

  -- before its first event a unit knows nothing
  pub nothing : (v p u : ℕ) → Past ev v p u 0 → ⊥
  nothing v p u (own e lt) = omega arith
  nothing v p u (got k m w l lt r s p') = omega arith

  -- a send brings no mark
  pub send_same : (u k m : ℕ) → ev u k ≡ Some (Send m) → Same ev (Known ev u k) (Known ev u (suc k))
  send_same u k m e w p (l, o) = grind (arith, past_more, past_quiet)

  -- a receipt brings itself and what was known just after the send
  pub past_receive : Once ev → (u k m w j : ℕ) → ev u k ≡ Some (Receive m) → ev w j ≡ Some (Send m) → {v p : ℕ} → Past ev v p u (suc k)
      → AtOrPast ev v p u k ⊎ Past ev v p w (suc j)
  past_receive once u k m w j e s {v} {p} h = grind (arith, past_last)

  -- a receipt brings the marks that the message knows
  pub receive_same : Once ev → (u k m w j : ℕ) → ev u k ≡ Some (Receive m) → ev w j ≡ Some (Send m) → Same ev (Either (Known ev u k) (Known ev w j)) (Known ev u (suc k))
  receive_same once u k m w j e s v p (l, o) = (
    ⊎_elim (past_more ev (suc k) (omega arith)) (λ x. got k m w j (omega arith) e s (past_more ev (suc j) (omega arith) x)),
    λ h. ⊎_elim (⊎_elim (λ x. (let p = x.0 in let q = x.1 in cc)) inl) (λ x. inr ((send_same w j m s v p (l, o)).1 x)) (past_receive once u k m w j e s h),
  )
