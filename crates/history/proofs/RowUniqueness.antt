-- A unit has one row after its first i events.
-- The event at the last position says how the row came about: from the unit's row before the event and, at a receipt, from the sender's
-- row at the send, of which there is one, since a message is sent once. By induction these rows are the same, and so is what they give.
use Rattle.std.proofs.Common.{◌≡◌, ℕ, suc, Some, sym, ap, ◌∙◌, subst, ap₂, subst₂, arith}
use Rattle.history.specs.Events.{Events}
use Rattle.history.specs.declared.calls.Event.TheVariants.{Mark, Receive, Send}
use Rattle.history.specs.Rows.{Payload, new_row, merge_row, mark_row}
use Rattle.history.specs.declared.cells.Cell.{Cell}
use Rattle.history.proofs.UnitRows.{Row, new, sent, received, marked}
use Rattle.history.proofs.RowTruth.{Once}

module _ {V : Type 0} (M : Payload V) (ev : Events) where
  row_zero : (u k : ℕ) → k ≡ 0 → {t : ℕ → Cell V} → Row M ev u k t → t ≡ new_row M.start
  row_zero u k f d = grind arith

  pub after_send : (u i m : ℕ) → ev u i ≡ Some (Send m) → (k : ℕ) → k ≡ suc i → {t : ℕ → Cell V} → Row M ev u k t → Row M ev u i t
  after_send u i m e k f d = grind arith

  pub after_mark : (u i l : ℕ) → ev u i ≡ Some (Mark l) → (k : ℕ) → k ≡ suc i → {t : ℕ → Cell V} → Row M ev u k t → (r : ℕ → Cell V) × Row M ev u i r × (t ≡ mark_row M u l r)
  after_mark u i l e k f (new a b) = absurd (omega arith)
  after_mark u i l e k f (sent j m a b d) = cc
  after_mark u i l e k f (received j m w x p q a b c d g s) = cc
  after_mark u i l e k f {t} (marked j c p a b d s) =
      (p, subst (λ h. Row M ev u h p) (omega arith) d, s ∙ ap (λ h. mark_row M u h p) (cc))

  module _ (once : Once ev) where
    pub after_receive : (u i m w x : ℕ) → ev u i ≡ Some (Receive m) → ev w x ≡ Some (Send m) → (k : ℕ) → k ≡ suc i → {t : ℕ → Cell V} → Row M ev u k t →
        (p q : ℕ → Cell V) × Row M ev u i p × Row M ev w x q × (t ≡ merge_row M.start p q)
    after_receive u i m w x e s k f (new a b) = absurd (omega arith)
    after_receive u i m w x e s k f (sent j m' a b d) = cc
    after_receive u i m w x e s k f (received j m' w' x' p q a b c d g y) =
        let o : m' ≡ m = cc in
        let (h, l) = once m w' x' w x (subst (λ v. ev w' x' ≡ Some (Send v)) o c) s in
        (p, q, subst (λ v. Row M ev u v p) (omega arith) d, subst₂ (λ v y. Row M ev v y q) h l g, y)
    after_receive u i m w x e s k f (marked j c p a b d y) = cc

    pub row_one : {u i : ℕ} {r t : ℕ → Cell V} → Row M ev u i r → Row M ev u i t → r ≡ t
    row_one {u} {i} (new a b) y = b ∙ sym (row_zero u i a y)
    row_one {u} {i} (sent j m a b d) y = row_one d (after_send u j m b i a y)
    row_one {u} {i} (received j m w x p q a b c d g s) y = let (p', q', d', g', s') = after_receive u j m w x b c i a y in s ∙ ap₂ (merge_row M.start) (row_one d d') (row_one g g') ∙ sym s'
    row_one {u} {i} (marked j l p a b d s) y = let (p', d', s') = after_mark u j l b i a y in s ∙ ap (mark_row M u l) (row_one d d') ∙ sym s'
