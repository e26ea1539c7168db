-- A mark keeps what holds of a unit's row, and so every row holds.
use Rattle.std.proofs.Common.{◌≡◌, ℕ, suc, ◌<◌, true, false, Some, sym, refl, subst, subst₂, inl, inr, arith}
use Rattle.std.proofs.lemmas.Bool.Decides.{nat_tests}
use Rattle.std.proofs.lemmas.Bool.{cases_lt}
use Rattle.history.specs.Events.{Events}
use Rattle.history.specs.declared.calls.Event.TheVariants.{Mark}
use Rattle.history.specs.Rows.{Payload, mark_row}
use Rattle.history.specs.declared.cells.Cell.{Cell}
use Rattle.history.proofs.UnitRows.{Row, new, sent, received, marked}
use Rattle.history.proofs.PastFacts.{Past, AtOrPast, own, past_more, past_trans, past_quiet}
use Rattle.history.proofs.MarkCountFacts.{marks_strict}
use Rattle.history.proofs.CellTruth.{Top, Truthful}
use Rattle.history.proofs.RowTruth.{Known, Once, Holds}
use Rattle.history.proofs.StepFacts.{quiet_apart, holds_new, holds_send, holds_receive}

module _ {V : Type 0} (ev : Events) (M : Payload V) (W : ℕ → ℕ → V → Type 0) where
  module _ (u k l : ℕ) (r : ℕ → Cell V) (e : ev u k ≡ Some (Mark l)) (h : Holds ev M.start W u k r) (x : W u k (M.make r u l)) where
    mark_last : (v p : ℕ) → Past ev v p u (suc k) → AtOrPast ev v p u k
    mark_last v p g = past_quiet ev (λ m y. cc) g

    mark_top : Top ev (Known ev u (suc k)) u k
    mark_top = grind (arith, own, past_trans, mark_last)

    truthful_old : (v : ℕ) → (v ≡ u → ⊥) → Truthful ev M.start W (Known ev u (suc k)) v (record { clock = (r v).clock; flag = false; value = M.start })
    truthful_old v d = grind (arith, mark_last, past_more, own)

    truthful_own : Truthful ev M.start W (Known ev u (suc k)) u (record { clock = suc (r u).clock; flag = true; value = M.make r u l })
    truthful_own = record {
      known = λ p m g. grind (arith, mark_last u p);
      within = λ p m g. (let c : p < suc k = grind (arith, marks_strict) in own refl c);
      there = λ c b. elim (cases_lt c (r u).clock) [ inl y ↦ (h.cells u).there c y | inr y ↦ (k, (l, e), omega (arith, h.mine)) ];
      top = λ y. (k, mark_top, x);
      low = λ y. cc;
      blank = λ y. cc;
    }

    mark_own : mark_row M u l r u ≡ record { clock = suc (r u).clock; flag = true; value = M.make r u l }
    mark_own = grind arith

    pub holds_mark : Holds ev M.start W u (suc k) (mark_row M u l r)
    holds_mark = grind (arith, nat_tests, mark_own, truthful_own, truthful_old, mark_last, quiet_apart)

  -- Every row holds, if each mark of a row that holds is worth what it should be.
  pub rows_hold : Once ev → ((u k l : ℕ) (r : ℕ → Cell V) → ev u k ≡ Some (Mark l) → Holds ev M.start W u k r → W u k (M.make r u l)) →
      {u i : ℕ} {r : ℕ → Cell V} → Row M ev u i r → Holds ev M.start W u i r
  rows_hold once w {u} {i} {r} (new e f) = subst₂ (λ a b. Holds ev M.start W u a b) (sym e) (sym f) (holds_new ev M W u)
  rows_hold once w {u} {i} {r} (sent k m e s d) = subst (λ a. Holds ev M.start W u a r) (sym e) (holds_send ev M W u k m r s (rows_hold once w d))
  rows_hold once w {u} {i} {r} (received k m x j p q e f s d c g) = subst₂ (λ a b. Holds ev M.start W u a b) (sym e) (sym g) (holds_receive ev M W once u k m x j p q f s (rows_hold once w d) (rows_hold once w c))
  rows_hold once w {u} {i} {r} (marked k l p e f d g) = subst₂ (λ a b. Holds ev M.start W u a b) (sym e) (sym g) (holds_mark u k l p f (rows_hold once w d) (w u k l p f (rows_hold once w d)))
