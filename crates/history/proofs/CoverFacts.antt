-- Each known mark is a top of what is known, or before one.
-- For two sets together: a mark of the one is a top of that set, or before one. If the other set does not hold this top, it is a top of
-- both, since the sets hold what is before their members. If it does, a top of the other set is that mark or comes after it, and then
-- nothing in either set comes after this second top.
use Rattle.std.proofs.Common.{ℕ, sym, subst₂, inl, inr, ⊎_elim, arith}
use Rattle.std.proofs.lemmas.Bool.{cases_lt}
use Rattle.history.specs.Events.{Events}
use Rattle.history.specs.Marks.{IsMark, marks}
use Rattle.history.specs.declared.cells.Cell.{Cell}
use Rattle.history.proofs.PastFacts.{Past, AtOrPast, past_trans}
use Rattle.history.proofs.CellTruth.{PositionSet, Either, Closed, Top, Same, Truthful, top_same}

-- each mark of the set is a top of it, or in the past of one
abbrev pub Covered : Events → PositionSet → Type 0
Covered ev S = (v p : ℕ) → IsMark ev v p → S v p → (w q : ℕ) × Top ev S w q × AtOrPast ev v p w q

module _ (ev : Events) where
  pub at_or_past_then : (v p w q x y : ℕ) → AtOrPast ev v p w q → Past ev w q x y → Past ev v p x y
  at_or_past_then v p w q x y (inl e) h = subst₂ (λ a b. Past ev a b x y) (sym e.0) (sym e.1) h
  at_or_past_then v p w q x y (inr g) h = past_trans ev g h

  pub cover_same : (S R : PositionSet) → Same ev S R → Covered ev S → Covered ev R
  cover_same S R s c v p m r = let (w, q, t, h) = c v p m ((s v p m).1 r) in (w, q, top_same ev S R s w q t, h)

module _ {V : Type 0} (ev : Events) (start : V) (W : ℕ → ℕ → V → Type 0) where
  cover_half : (A B : PositionSet) (b : ℕ → Cell V) → Closed ev B → ((v : ℕ) → Truthful ev start W B v (b v)) → Covered ev A → Covered ev B →
      (v p : ℕ) → IsMark ev v p → A v p → (w q : ℕ) × Top ev (Either A B) w q × AtOrPast ev v p w q
  cover_half A B b cb fb ka kb v p m s = above (ka v p m s)
    where
      both : (w q x y : ℕ) → Top ev A w q → AtOrPast ev v p w q → Top ev B x y → AtOrPast ev w q x y → (w q : ℕ) × Top ev (Either A B) w q × AtOrPast ev v p w q
      both w q x y t h r (inl e) = (w, q, grind arith, h)
      both w q x y t h r (inr g) = (x, y, grind (arith, past_trans), inr (at_or_past_then ev v p w q x y h g))

      above : (w q : ℕ) × Top ev A w q × AtOrPast ev v p w q → (w q : ℕ) × Top ev (Either A B) w q × AtOrPast ev v p w q
      above (w, q, t, h) = elim (cases_lt (marks ev w q) (b w).clock) [
        | inl l ↦ (let (x, y, r, g) = kb w q t.0 ((fb w).within q t.0 l) in both w q x y t h r g)
        | inr l ↦ (w, q, grind (arith, (fb w).known q), h)
      ]

  pub cover_merge : (A B : PositionSet) (a b : ℕ → Cell V) → Closed ev A → Closed ev B → ((v : ℕ) → Truthful ev start W A v (a v)) → ((v : ℕ) → Truthful ev start W B v (b v)) →
      Covered ev A → Covered ev B → Covered ev (Either A B)
  cover_merge A B a b ca cb fa fb ka kb v p m (inl s) = cover_half A B b cb fb ka kb v p m s
  cover_merge A B a b ca cb fa fb ka kb v p m (inr s) =
      let (w, q, t, h) = cover_half B A a ca fa kb ka v p m s in
      (w, q, top_same ev (Either B A) (Either A B) (λ z k n. (⊎_elim inr inl, ⊎_elim inr inl)) w q t, h)
