-- What each accepted call was answered.
-- A reply is made from the unit's rows just before the event and just after it, and these tell the truth: the own clock after it counts
-- the unit's marks, the flags before a mark show its immediate predecessors, and the clocks after a mark are its stamp.
use Rattle.std.proofs.Common.{◌≡◌, ℕ, suc, ◌↔◌, List, Some, inl, inr, refl, ap, arith}
use Rattle.std.proofs.lemmas.Bool.{cases_Bool}
use Rattle.bitset.specs.Sets.{Member, those}
use Rattle.bitset.proofs.Promises.{those_members}
use Rattle.history.specs.Events.{Events, at}
use Rattle.history.specs.declared.calls.Event.TheVariants.{Mark, Receive, Send}
use Rattle.history.specs.declared.calls.Event.{Event}
use Rattle.history.specs.Marks.{tick, marks}
use Rattle.history.specs.Predecessors.{ShowsPredecessors}
use Rattle.history.specs.HappenedBefore.{Immediate}
use Rattle.history.specs.Rows.{Payload}
use Rattle.history.specs.declared.cells.Cell.{Cell}
use Rattle.history.specs.Runs.{Size, Ranged}
use Rattle.history.specs.declared.calls.Call.{Call}
use Rattle.history.specs.Board.{Reply, reply, run}
use Rattle.history.specs.declared.calls.Answer.TheVariants.{Sent, Received}
use Rattle.history.specs.Laws.{run_events, Answered, MarksAnswered, MessagesAnswered, MessageAnswered}
use Rattle.history.proofs.UnitRows.{Row}
use Rattle.history.proofs.RowTruth.{Holds}
use Rattle.history.proofs.PredecessorFacts.{before_past, top_immediate, immediate_top}
use Rattle.history.proofs.CellTruth.{top_one}
use Rattle.history.proofs.RowUniqueness.{after_mark}
use Rattle.history.proofs.RunFacts.{sound_run}
use Rattle.history.proofs.ReplyFacts.{said_run}
use Rattle.history.proofs.AcceptanceFacts.{rows_true}
use Rattle.history.proofs.StampFacts.{clocks_stamp}

-- a row that holds shows the immediate predecessors of the next mark
pub holds_shows : {V : Type 0} (ev : Events) (start : V) (W : ℕ → ℕ → V → Type 0) (u i l : ℕ) (r : ℕ → Cell V) → ev u i ≡ Some (Mark l) → Holds ev start W u i r → ShowsPredecessors ev W u i r
holds_shows ev start W u i l r e h = record {
  flagged = λ v y. (let (p, t, w) = (h.cells v).top y in (p, top_immediate ev v p u i (l, e) t, w));
  known = λ v p y. elim (cases_Bool (r v).flag) [ inl f ↦ f | inr f ↦ absurd ((h.cells v).low f p (immediate_top ev v p u i y)) ];
  single = λ v p q a b. top_one ev _ v p q (immediate_top ev v p u i a) (immediate_top ev v q u i b);
  reached = λ v p m b. (let (w, q, t, y) = h.cover v p m (before_past ev v p u i (l, e) b) in (w, q, top_immediate ev w q u i (l, e) t));
}

-- a unit is flagged just before a mark exactly when it has an immediate predecessor of it
pub predecessors : {V : Type 0} (ev : Events) (W : ℕ → ℕ → V → Type 0) (u i : ℕ) (r : ℕ → Cell V) → ShowsPredecessors ev W u i r
    → (z : Size) → Ranged ev z → (v : ℕ) → Member v (those (λ j. (r j).flag) z.units) ↔ ((p : ℕ) × Immediate ev v p u i)
predecessors ev W u i r s z rg v = grind (arith, s.flagged v, those_members, s.known v)

module _ {V : Type 0} (M : Payload V) (z : Size) (cs : List Call) (u i l : ℕ) (e : run_events M z cs u i ≡ Some (Mark l)) where
  -- the answer, and the row that it was made from
  pub answer_made : (a : Answered M z cs u i) × (r : ℕ → Cell V) × Row M (run_events M z cs) u i r × (a.value ≡ M.make r u l)
  answer_made =
      let once = (sound_run M z cs).once in
      let (r, t, d, g, q) = (said_run M z cs).says u i (Mark l) e in
      let (s, c, x) = after_mark M (run_events M z cs) u i l e (suc i) refl g in (
        record {
          clock = (t u).clock;
          predecessors = those (λ j. (r j).flag) z.units;
          value = (t u).value;
          stamp = λ v. (t v).clock;
          reply_is = q;
          clock_is = (rows_true M (run_events M z cs) once g).mine;
          predecessors_are = predecessors (run_events M z cs) _ u i r (holds_shows (run_events M z cs) M.start _ u i l r e (rows_true M (run_events M z cs) once d)) z (sound_run M z cs).ranged;
          stamp_is = clocks_stamp M (run_events M z cs) once u i l e t g;
        },
        s,
        c,
        grind arith,
      )

pub marks_answered : (V : Type 0) → MarksAnswered V
marks_answered V M z cs u i l e = (answer_made M z cs u i l e).0

module _ {V : Type 0} (M : Payload V) (z : Size) (cs : List Call) (u i : ℕ) where
  -- an event that is no mark leaves the number of marks
  told_clock : (e : Event) → run_events M z cs u i ≡ Some e → tick (Some e) ≡ 0 → (t : ℕ → Cell V) → Row M (run_events M z cs) u (suc i) t → (t u).clock ≡ marks (run_events M z cs) u i
  told_clock e p q t g = let c = (rows_true M (run_events M z cs) (sound_run M z cs).once g).mine in grind arith

  -- an accepted call has a reply, and a send or a receipt the number of its unit's marks so far
  pub reply_made : (e : Event) → run_events M z cs u i ≡ Some e
      → (r : Reply V) × (at (run M z cs).replies u i ≡ Some r) × MessageAnswered (run_events M z cs) u i e r.answer
  reply_made (Send m) e = let (r, t, d, g, q) = (said_run M z cs).says u i (Send m) e in (reply M z u (Send m) r t, q, ap Sent (told_clock (Send m) e refl t g))
  reply_made (Receive m) e = let (r, t, d, g, q) = (said_run M z cs).says u i (Receive m) e in (reply M z u (Receive m) r t, q, ap Received (told_clock (Receive m) e refl t g))
  reply_made (Mark l) e = let (r, t, d, g, q) = (said_run M z cs).says u i (Mark l) e in (reply M z u (Mark l) r t, q, tt)

pub messages_answered : (V : Type 0) → MessagesAnswered V
messages_answered V M z cs u i e p = reply_made M z cs u i e p
