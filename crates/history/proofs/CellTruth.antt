-- When a cell tells the truth about a set of known positions, and the merge of two such cells.
-- A set of known positions holds what is before its members. A cell counts the known marks of one unit, and its flag says whether the last
-- of them is a top: a known mark that is before no other. Two sets are merged cell by cell. The cell with the larger clock knows what
-- the other does, and what it knows alone is before nothing that the other set holds, so it is right for both sets together; at equal
-- clocks the last mark is in both sets, and is a top of both together exactly when it is one of each.
use Rattle.std.proofs.Common.{◌≡◌, ℕ, suc, ◌<◌, true, false, ◌⊎◌, inl, inr, ⊎_elim, arith}
use Rattle.std.proofs.lemmas.Bool.{cases_order}
use Rattle.history.specs.Events.{Events}
use Rattle.history.specs.Marks.{IsMark, marks}
use Rattle.history.specs.Rows.{Payload, merged_cell, even_cell}
use Rattle.history.specs.declared.cells.Cell.{Cell}
use Rattle.history.proofs.PastFacts.{Past, own}
use Rattle.history.proofs.MarkCountFacts.{marks_mono}

-- A set of positions.
abbrev pub PositionSet : Type 1
PositionSet = ℕ → ℕ → Type 0

-- what is in one of two sets
abbrev pub Either : PositionSet → PositionSet → PositionSet
Either A B v p = A v p ⊎ B v p

-- The set holds what is before its members.
abbrev pub Closed : Events → PositionSet → Type 0
Closed ev S = (v p w k : ℕ) → S w k → Past ev v p w k → S v p

-- A mark of the set before no other mark of it.
abbrev pub Top : Events → PositionSet → ℕ → ℕ → Type 0
Top ev S v p = IsMark ev v p × S v p × ((w k : ℕ) → IsMark ev w k → S w k → Past ev v p w k → ⊥)

-- Both sets have the same marks.
abbrev pub Same : Events → PositionSet → PositionSet → Type 0
Same ev S R = (w k : ℕ) → IsMark ev w k → (S w k → R w k) × (R w k → S w k)

-- A cell tells the truth about the marks of unit v in a set of known positions; W says which values are right for a mark.
pub record Truthful {V : Type 0} (ev : Events) (start : V) (W : ℕ → ℕ → V → Type 0) (S : PositionSet) (v : ℕ) (c : Cell V) : Type 0 where
  -- the clock counts the known marks
  pub known : (p : ℕ) → IsMark ev v p → S v p → marks ev v p < c.clock
  pub within : (p : ℕ) → IsMark ev v p → marks ev v p < c.clock → S v p
  pub there : (k : ℕ) → k < c.clock → (p : ℕ) × IsMark ev v p × (marks ev v p ≡ k)
  -- the flag says whether the last of them is a top, whose value the cell then has; without a flag the value is start
  pub top : c.flag ≡ true → (p : ℕ) × Top ev S v p × W v p c.value
  pub low : c.flag ≡ false → (p : ℕ) → Top ev S v p → ⊥
  pub blank : c.flag ≡ false → c.value ≡ start

module _ (ev : Events) where
  pub top_same : (S R : PositionSet) → Same ev S R → (v p : ℕ) → Top ev S v p → Top ev R v p
  top_same S R s v p t = grind arith

  pub top_one : (S : PositionSet) (v p q : ℕ) → Top ev S v p → Top ev S v q → p ≡ q
  top_one S v p q a b = grind (arith, own)

module _ {V : Type 0} (ev : Events) (M : Payload V) (W : ℕ → ℕ → V → Type 0) where
  pub truthful_same : (S R : PositionSet) → Same ev S R → (v : ℕ) (c : Cell V) → Truthful ev M.start W S v c → Truthful ev M.start W R v c
  truthful_same S R s v c f = grind arith

  -- a top of the set is the unit's last known mark
  pub top_last : (S : PositionSet) (v : ℕ) (c : Cell V) → Truthful ev M.start W S v c → (p : ℕ) → Top ev S v p → suc (marks ev v p) ≡ c.clock
  top_last S v c f p t = grind (arith, own, marks_mono)

  module _ (A B : PositionSet) (v : ℕ) (a b : Cell V) (ca : Closed ev A) (cb : Closed ev B) (fa : Truthful ev M.start W A v a) (fb : Truthful ev M.start W B v b) where
    -- the message knows more marks of v
    pub truthful_right : a.clock < b.clock → Truthful ev M.start W (Either A B) v b
    truthful_right lt = grind (arith, top_last)

    -- both know the same marks of v
    pub truthful_even : a.clock ≡ b.clock → Truthful ev M.start W (Either A B) v (even_cell M.start a b)
    truthful_even eq = grind (arith, own)

  pub truthful_merge : (A B : PositionSet) (v : ℕ) (a b : Cell V) → Closed ev A → Closed ev B → Truthful ev M.start W A v a → Truthful ev M.start W B v b → Truthful ev M.start W (Either A B) v (merged_cell M.start a b)
  truthful_merge A B v a b ca cb fa fb = elim (cases_order a.clock b.clock) [
    | inl e ↦ (let q : merged_cell M.start a b ≡ even_cell M.start a b = grind arith in rw q (truthful_even A B v a b ca cb fa fb e))
    | inr (inl h) ↦ (let q : merged_cell M.start a b ≡ b = grind arith in rw q (truthful_right A B v a b ca cb fa fb h))
    | inr (inr h) ↦ (let q : merged_cell M.start a b ≡ a = grind arith in rw q (truthful_same (Either B A) (Either A B) (λ w k m. (⊎_elim inr inl, ⊎_elim inr inl)) v a (truthful_right B A v b a cb ca fb fa h)))
  ]
