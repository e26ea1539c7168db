-- Stamps decide the causal order of two marks.
use Rattle.std.proofs.Common.{◌≡◌, ℕ, suc, ◌<◌, false, ◌&&◌, eqb, ◌↔◌, List, Some, ap, ◌∙◌, subst, inl, inr, arith}
use mathlib.Core.Path.{fun_ext}
use Rattle.std.proofs.lemmas.Bool.{cases_Bool, and_parts, eqb-true}
use Rattle.history.specs.declared.precedence.Precedence.{Precedence}
use Rattle.history.specs.Events.{Events, Logs, at}
use Rattle.history.specs.declared.calls.Event.TheVariants.{Mark}
use Rattle.history.specs.Marks.{IsMark, marks}
use Rattle.history.specs.HappenedBefore.{Before, chain, Here, AtOrBefore}
use Rattle.history.specs.Stamps.{Stamp}
use Rattle.history.specs.Rows.{nothing}
use Rattle.history.specs.Runs.{Size, Run, by_unit}
use Rattle.history.specs.declared.calls.Call.{Call}
use Rattle.history.specs.Board.{run}
use Rattle.history.specs.Precedence.{Ordered, stamp_order}
use Rattle.history.specs.Laws.{StampsDecide}
use Rattle.history.proofs.PredecessorFacts.{before_past}
use Rattle.history.proofs.StampFacts.{mark_numbered, stamp_knows, stamp_own}
use Rattle.history.proofs.RunFacts.{sound_run}
use Rattle.history.proofs.ReplyFacts.{said_run}
use Rattle.history.proofs.AcceptanceFacts.{rows_true, accepts_runs}

-- What a stamp says: which marks it knows, and the mark's own number.
pub record Knows (ev : Events) (u i : ℕ) (stamp : ℕ → ℕ) : Type 0 where
  pub knows : (v p : ℕ) → IsMark ev v p → (marks ev v p < stamp v) ↔ AtOrBefore ev v p u i
  pub own : stamp u ≡ marks ev u (suc i)

-- No two of the four orders hold at once.
ordered_one : (ev : Events) (u i v j : ℕ) → (Before ev u i u i → ⊥) → (a b : Precedence) → Ordered ev u i v j a → Ordered ev u i v j b → a ≡ b
ordered_one ev u i v j irr a b x y = grind (arith, chain)

module _ (ev : Events) (u i v j : ℕ) (p q : ℕ → ℕ) (mu : IsMark ev u i) (mv : IsMark ev v j) (sp : Knows ev u i p) (sq : Knows ev v j q) where
  equal_here : u ≡ v → p u ≡ q u → Here u i v j
  equal_here e f = grind (arith, mark_numbered)

  not_same : (eqb u v && eqb (p u) (q u)) ≡ false → Ordered ev u i v j (stamp_order p q u v)
  not_same t = grind arith

  pub compared_ordered : Ordered ev u i v j (stamp_order p q u v)
  compared_ordered =
      elim (cases_Bool (eqb u v && eqb (p u) (q u))) [
        | inl t ↦ (let (x, y) = and_parts (eqb u v) (eqb (p u) (q u)) t in rw t (equal_here (eqb-true u v x) (eqb-true (p u) (q u) y)))
        | inr t ↦ not_same t
      ]

module _ (z : Size) (cs : List Call) (ok : Run z cs) where
  ev : Events
  ev = at (run nothing z cs).log

  knows : (u i l : ℕ) → ev u i ≡ Some (Mark l) → (p : ℕ → ℕ) → Stamp ev u i p → Knows ev u i p
  unfolding ev
  knows u i l e p s =
      let (r, t, d, g, q) = (said_run nothing z cs).says u i (Mark l) e in
      let once = (sound_run nothing z cs).once in
      record { knows = stamp_knows nothing ev once u i l e t g p s; own = stamp_own nothing ev once u i l e t g p s }

  irreflexive : (u i l : ℕ) → ev u i ≡ Some (Mark l) → Before ev u i u i → ⊥
  unfolding ev
  irreflexive u i l e b =
      let (r, t, d, g, q) = (said_run nothing z cs).says u i (Mark l) e in
      (rows_true nothing ev (sound_run nothing z cs).once d).apart (before_past ev u i u i (l, e) b)

  decided : (u i v j : ℕ) → IsMark ev u i → IsMark ev v j → (p q : ℕ → ℕ) → Stamp ev u i p → Stamp ev v j q → (o : Precedence) → (stamp_order p q u v ≡ o) ↔ Ordered ev u i v j o
  decided u i v j (l, e) (k, f) p q s t o =
      let is = compared_ordered ev u i v j p q (l, e) (k, f) (knows u i l e p s) (knows v j k f q t) in
      ((λ x. subst (Ordered ev u i v j) x is), λ x. ordered_one ev u i v j (irreflexive u i l e) (stamp_order p q u v) o is x)

  logs_same : (run nothing z cs).log ≡ by_unit cs
  logs_same = fun_ext (λ u. (accepts_runs nothing z cs).logged u ∙ ap (λ (l : List Call). by_unit l u) ((accepts_runs nothing z cs).run_accepted ok))

  pub run_decided : (u i v j : ℕ) → IsMark (at (by_unit cs)) u i → IsMark (at (by_unit cs)) v j → (p q : ℕ → ℕ) → Stamp (at (by_unit cs)) u i p → Stamp (at (by_unit cs)) v j q
      → (o : Precedence) → (stamp_order p q u v ≡ o) ↔ Ordered (at (by_unit cs)) u i v j o
  unfolding ev
  run_decided = subst
      (λ (l : Logs). (u i v j : ℕ) → IsMark (at l) u i → IsMark (at l) v j → (p q : ℕ → ℕ) → Stamp (at l) u i p → Stamp (at l) v j q → (o : Precedence) → (stamp_order p q u v ≡ o) ↔ Ordered (at l) u i v j o)
      logs_same decided

  -- the marks of a run are made by its units
  pub run_unit : (u i : ℕ) → IsMark (at (by_unit cs)) u i → u < z.units
  run_unit = subst (λ (l : Logs). (u i : ℕ) → IsMark (at l) u i → u < z.units) logs_same (λ u i m. (sound_run nothing z cs).ranged.unit u i m.0 m.1)

pub stamps_decide : StampsDecide
stamps_decide z cs ok u i v j = run_decided z cs ok u i v j
