-- The clocks just after a mark are its stamp.
use Rattle.std.proofs.Common.{◌≡◌, ℕ, zero, suc, ◌<◌, ◌↔◌, [], ◌∷◌, Some, refl, ap, ◌∙◌, arith}
use Rattle.history.specs.Events.{Events}
use Rattle.history.specs.declared.calls.Event.TheVariants.{Mark}
use Rattle.history.specs.Marks.{IsMark, marks}
use Rattle.history.specs.HappenedBefore.{AtOrBefore}
use Rattle.history.specs.Counting.{HowMany}
use Rattle.history.specs.Stamps.{Stamp}
use Rattle.history.specs.Rows.{Payload}
use Rattle.history.specs.declared.cells.Cell.{Cell}
use Rattle.history.proofs.UnitRows.{Row}
use Rattle.history.proofs.MarkCountFacts.{marks_strict}
use Rattle.history.proofs.PastFacts.{own, past_more, past_quiet}
use Rattle.history.proofs.RowTruth.{Once}
use Rattle.history.proofs.PredecessorFacts.{before_past, past_before}
use Rattle.history.proofs.ListFacts.{exactly_like, how_many_one}
use Rattle.history.proofs.AcceptanceFacts.{rows_true}

-- marks of one unit with the same number are one
pub mark_numbered : (ev : Events) (v p q : ℕ) → IsMark ev v p → IsMark ev v q → marks ev v p ≡ marks ev v q → p ≡ q
mark_numbered ev v p q a b e = grind (arith, marks_strict)

-- if each number below n is that of a mark of v, these are n marks
numbered : (ev : Events) (v n : ℕ) → ((k : ℕ) → k < n → (p : ℕ) × IsMark ev v p × (marks ev v p ≡ k)) → HowMany (λ p. IsMark ev v p × (marks ev v p < n)) n
numbered ev v zero there = ([], record { sound = λ p m. absurd m; complete = λ p h. (let b = h.1 in absurd (omega arith)); once = tt }, refl)
numbered ev v (suc n) there = more (there n (omega arith)) (numbered ev v n (λ k h. there k (omega arith)))
  where
    more : (p : ℕ) × IsMark ev v p × (marks ev v p ≡ n) → HowMany (λ p. IsMark ev v p × (marks ev v p < n)) n → HowMany (λ p. IsMark ev v p × (marks ev v p < suc n)) (suc n)
    more (p, m, e) (l, x, f) = (p ∷ l, record { sound = λ q i. grind (arith, x.sound q); complete = λ q h. grind (arith, x.complete q, mark_numbered ev v q p); once = (λ d. grind (arith, x.sound p), x.once) }, ap suc f)

module _ {V : Type 0} (M : Payload V) (ev : Events) (once : Once ev) (u i l : ℕ) (e : ev u i ≡ Some (Mark l)) (t : ℕ → Cell V) (d : Row M ev u (suc i) t) where
  -- a mark is known just after the mark (u, i) exactly when it is this mark or before it
  known_at_or_before : (v p : ℕ) → IsMark ev v p → marks ev v p < (t v).clock → AtOrBefore ev v p u i
  known_at_or_before v p m h = grind (arith, past_before, past_quiet, rows_true)

  at_or_before_known : (v p : ℕ) → IsMark ev v p → AtOrBefore ev v p u i → marks ev v p < (t v).clock
  at_or_before_known v p m h = ((rows_true M ev once d).cells v).known p m (grind (arith, own, past_more, before_past))

  pub clocks_stamp : Stamp ev u i (λ v. (t v).clock)
  clocks_stamp v =
      let (ps, x, n) = numbered ev v (t v).clock ((rows_true M ev once d).cells v).there in
      (ps, exactly_like (λ p h. (h.0, known_at_or_before v p h.0 h.1)) (λ p h. (h.0, at_or_before_known v p h.0 h.1)) ps x, n)

  -- what any stamp of the mark says of a mark, and of its own number
  module _ (stamp : ℕ → ℕ) (is : Stamp ev u i stamp) where
    stamp_clock : (v : ℕ) → stamp v ≡ (t v).clock
    stamp_clock v = how_many_one (stamp v) (t v).clock (is v) (clocks_stamp v)

    pub stamp_knows : (v p : ℕ) → IsMark ev v p → (marks ev v p < stamp v) ↔ AtOrBefore ev v p u i
    stamp_knows v p m = grind (arith, known_at_or_before, stamp_clock, at_or_before_known)

    pub stamp_own : stamp u ≡ marks ev u (suc i)
    stamp_own = stamp_clock u ∙ (rows_true M ev once d).mine
