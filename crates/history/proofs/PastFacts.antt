-- What is in the past of a unit at a time.
use Rattle.std.proofs.Common.{◌≡◌, ℕ, suc, ◌<◌, ◌≤◌, ◌⊎◌, Some, sym, subst, inl, inr, arith}
use Rattle.std.proofs.lemmas.Bool.{cases_lt}
use Rattle.history.specs.Events.{Events}
use Rattle.history.specs.declared.calls.Event.TheVariants.{Receive, Send}
use Rattle.history.specs.HappenedBefore.{Here}

-- The event at position (v, j) is among the first i events of u, or is before one of these.
pub data Past (ev : Events) (v j : ℕ) : ℕ → ℕ → Type 0 where
  own : {u i : ℕ} → u ≡ v → j < i → Past ev v j u i
  got : {u i : ℕ} (k m w l : ℕ) → k < i → ev u k ≡ Some (Receive m) → ev w l ≡ Some (Send m) → Past ev v j w (suc l) → Past ev v j u i

-- one position is another, or in its past
abbrev pub AtOrPast : Events → ℕ → ℕ → ℕ → ℕ → Type 0
AtOrPast ev v p w q = Here v p w q ⊎ Past ev v p w q

-- known before the event at (u, i), or through the message that it receives
abbrev pub Strict : Events → ℕ → ℕ → ℕ → ℕ → Type 0
Strict ev v j u i = Past ev v j u i ⊎ ((m w l : ℕ) × (ev u i ≡ Some (Receive m)) × (ev w l ≡ Some (Send m)) × Past ev v j w (suc l))

module _ (ev : Events) where
  pub past_more : {v j u i : ℕ} (h : ℕ) → i ≤ h → Past ev v j u i → Past ev v j u h
  past_more h le (own e lt) = own e (omega arith)
  past_more h le (got k m w l lt r s p) = got k m w l (omega arith) r s p

  pub past_down : {v j u i : ℕ} (h : ℕ) → h ≤ j → Past ev v j u i → Past ev v h u i
  past_down h le (own e lt) = own e (omega arith)
  past_down h le (got k m w l lt r s p) = got k m w l lt r s (past_down h le p)

  -- what is known just after a position of the past is in the past
  pub past_through : {x y v j u i : ℕ} → Past ev x y v (suc j) → Past ev v j u i → Past ev x y u i
  past_through {x} {y} {v} {j} {u} {i} p (own e lt) = subst (λ a. Past ev x y a i) (sym e) (past_more i lt p)
  past_through p (got k m w l lt r s q) = got k m w l lt r s (past_through p q)

  pub past_trans : {x y v j u i : ℕ} → Past ev x y v j → Past ev v j u i → Past ev x y u i
  past_trans {x} {y} {v} {j} p q = past_through (past_more (suc j) (omega arith) p) q

  -- what one more event of u brings
  pub past_last : {v j u i : ℕ} → Past ev v j u (suc i) → Here v j u i ⊎ Strict ev v j u i
  past_last {v} {j} {u} {i} (own e lt) = elim (cases_lt j i) [ inl h ↦ inr (inl (own e h)) | inr h ↦ inl (sym e, omega arith) ]
  past_last {v} {j} {u} {i} (got k m w l lt r s p) = elim (cases_lt k i) [ inl h ↦ inr (inl (got k m w l h r s p)) | inr h ↦ inr (inr (m, w, l, subst (λ a. ev u a ≡ Some (Receive m)) (omega arith) r, s, p)) ]

  -- an event that is no receipt brings itself alone
  pub past_quiet : {v j u i : ℕ} → ((m : ℕ) → ev u i ≡ Some (Receive m) → ⊥) → Past ev v j u (suc i) → AtOrPast ev v j u i
  past_quiet q p = grind (arith, past_last)
