-- The past and what is before.
use Rattle.std.proofs.Common.{ℕ, suc, ◌≤◌, sym, refl, inl, inr, arith}
use Rattle.history.specs.Events.{Events, Stands}
use Rattle.history.specs.declared.calls.Event.TheVariants.{Mark, Receive, Send}
use Rattle.history.specs.Marks.{IsMark}
use Rattle.history.specs.HappenedBefore.{Before, earlier, message, chain, AtOrBefore, Immediate}
use Rattle.history.proofs.PastFacts.{Past, Strict, own, got, past_more, past_through}
use Rattle.history.proofs.CellTruth.{Top}
use Rattle.history.proofs.RowTruth.{Known}

module _ (ev : Events) where
  strict_past : (v j u i : ℕ) → Strict ev v j u i → Past ev v j u (suc i)
  strict_past v j u i s = grind (arith, past_more, got)

  pub before_strict : {v j u i : ℕ} → Before ev v j u i → Strict ev v j u i
  before_strict (earlier e lt a b) = inl (own (sym e) lt)
  before_strict {v} {j} {u} {i} (message m s r) = inr (m, v, j, r, s, own refl (omega arith))
  before_strict {v} {j} {u} {i} (chain w k a b) = through (strict_past v j w k (before_strict a)) (before_strict b)
    where
      through : Past ev v j w (suc k) → Strict ev w k u i → Strict ev v j u i
      through p (inl q) = inl (past_through ev p q)
      through p (inr (m, x, l, r, s, q)) = inr (m, x, l, r, s, past_through ev p q)

  pub before_past : (v j u i : ℕ) → IsMark ev u i → Before ev v j u i → Past ev v j u i
  before_past v j u i (l, e) b = grind (arith, before_strict)

  at_or_before_then : {v j w l u k : ℕ} → AtOrBefore ev v j w l → Before ev w l u k → Before ev v j u k
  at_or_before_then x b = grind (arith, chain)

  before_later : {v j u k i : ℕ} → k ≤ i → Stands ev u k → Stands ev u i → Before ev v j u k → Before ev v j u i
  before_later le s t b = grind (arith, chain, earlier)

  past_at_or_before : {v j u h : ℕ} → Stands ev v j → (i : ℕ) → h ≤ suc i → Stands ev u i → Past ev v j u h → AtOrBefore ev v j u i
  past_at_or_before a i le b (own e lt) = grind (arith, earlier)
  past_at_or_before a i le b (got k m w l lt r s p) = inr (before_later (omega arith) (Receive m, r) b (at_or_before_then (past_at_or_before a l (omega arith) (Send m, s) p) (message m s r)))

  pub past_before : (v j u i : ℕ) → Stands ev v j → Stands ev u i → Past ev v j u i → Before ev v j u i
  past_before v j u i a b (own e lt) = earlier (sym e) lt a b
  past_before v j u i a b (got k m w l lt r s p) = chain u k (at_or_before_then (past_at_or_before a l (omega arith) (Send m, s) p) (message m s r)) (earlier refl lt (Receive m, r) b)

  pub stands : (v p : ℕ) → IsMark ev v p → Stands ev v p
  stands v p (l, e) = (Mark l, e)

  pub top_immediate : (v p u k : ℕ) → IsMark ev u k → Top ev (Known ev u k) v p → Immediate ev v p u k
  top_immediate v p u k m t = grind (arith, past_before, before_past)

  pub immediate_top : (v p u k : ℕ) → Immediate ev v p u k → Top ev (Known ev u k) v p
  immediate_top v p u k i = grind (arith, before_past, past_before)
