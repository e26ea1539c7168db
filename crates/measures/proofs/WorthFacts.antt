-- A mark is worth the join over the flows that end at it.
-- The row just before the mark shows its immediate predecessors with such joins, so the flows that end at these are gathered. If there
-- are none, the mark is the first and the only flow is the mark alone. If there are some, the flows to the mark are these with the
-- mark put in front, and since a step goes through joins, the step of their join is the join of their steps.
use Rattle.std.proofs.Common.{◌≡◌, ℕ, List, [], ◌∷◌, map, Some, None, Option, unwrap_or, sym, refl, ap, ◌∙◌, subst, ap₂, inl}
use Rattle.std.specs.Option.{option_map}
use Rattle.std.proofs.lemmas.Bool.{ltb-true}
use Rattle.history.specs.Counting.{Exactly}
use Rattle.history.specs.Events.{Events, Position}
use Rattle.history.specs.declared.calls.Event.TheVariants.{Mark}
use Rattle.history.specs.Flows.{letter, letter_at}
use Rattle.history.specs.HappenedBefore.{Before, Immediate}
use Rattle.history.specs.Marks.{IsMark}
use Rattle.history.specs.declared.cells.Cell.{Cell}
use Rattle.history.specs.Predecessors.{ShowsPredecessors}
use Rattle.history.specs.Runs.{Ranged}
use Rattle.history.proofs.Promises.{exactly_one, exactly_map, exactly_like}
use Rattle.measures.specs.Words.{Letter, letter_of}
use Rattle.measures.specs.Measures.{Meaning, Lawful, IsLetterOf}
use Rattle.measures.specs.Worths.{plus, flagged_join, worth, measured_size}
use Rattle.measures.proofs.BackwardFlows.{Flow, flow_longer}
use Rattle.measures.proofs.JoinFacts.{total, word_value_back, total_longer}
use Rattle.measures.proofs.GatheredFlows.{Tally, LeadsTo, Gathered, flow_to, gathered_all}

plus_some : {V : Type 0} (m : Meaning V) (x : V) (t : Option V) → (y : V) × (plus m (Some x) t ≡ Some y)
plus_some m x None = (x, refl)
plus_some m x (Some y) = (m.join x y, refl)

stepped : {V : Type 0} (m : Meaning V) (c l : Letter) → c ≡ l → (o t : Option V) → o ≡ t → (y : V) → t ≡ Some y → option_map (λ a. m.step a c) t ≡ Some (m.step (unwrap_or o m.start) l)
stepped m c l d o t s y x = rw (s, x, d) refl

-- the letter of an accepted mark is the measure's
pub mark_is_letter : {V : Type 0} (m : Meaning V) (n k limit : ℕ) (ev : Events) → Ranged ev (measured_size m n k limit) → (u i : ℕ) → IsMark ev u i → IsLetterOf m (letter_at ev (u, i))
mark_is_letter m n k limit ev rg u i (l, e) = subst (IsLetterOf m) (sym (ap (letter u) e)) (ltb-true (letter_of u l) m.labels (rg.label u i l e))

module _ {V : Type 0} (ev : Events) (m : Meaning V) (admits : V → Type 0) (laws : Lawful m admits) (n k limit : ℕ) (rg : Ranged ev (measured_size m n k limit))
    (u i l : ℕ) (r : ℕ → Cell V) (e : ev u i ≡ Some (Mark l)) (shown : ShowsPredecessors ev (Tally m ev) u i r) where
  -- what a flow has before its last mark is a flow that leads to this mark
  leads_to : (y : Position) (f : List Position) → Immediate ev y.0 y.1 u i → Flow ev y.0 y.1 (y ∷ f) → LeadsTo ev u i n (y ∷ f)
  leads_to y f t w = (y.0, y.1, rg.unit y.0 y.1 t.0.0 t.0.1, t, w)

  -- no mark comes before it
  worth_first : Exactly (LeadsTo ev u i n) [] → flagged_join m r n ≡ None → Tally m ev u i (worth m n r u l)
  worth_first none sum = (
    (((u, i) ∷ []) ∷ []),
    exactly_like (λ f x. subst (Flow ev u i) (sym x) (refl, ((l, e), first))) only (((u, i) ∷ []) ∷ []) (exactly_one ((u, i) ∷ [])),
    ap Some (ap₂ m.step (sym (ap (λ (o : Option V). unwrap_or o m.start) sum)) (ap (letter u) e)),
  )
    where
      first : (v p : ℕ) → IsMark ev v p → Before ev v p u i → ⊥
      first v p a b =
          let (w, q, t) = shown.reached v p a b in
          let (f, y) = flow_to ev m admits laws u i r shown w q t in
          none.complete f (w, q, rg.unit w q t.0.0 t.0.1, t, y)

      only : (f : List Position) → Flow ev u i f → f ≡ (u, i) ∷ []
      only [] w = absurd w
      only (x ∷ []) w = ap (λ (y : Position). y ∷ []) w.0
      only (x ∷ (y ∷ f)) w = absurd (none.complete (y ∷ f) (leads_to y f w.1 w.2))

  -- flows come before it
  worth_after : (g : List Position) (gs : List (List Position)) → Exactly (LeadsTo ev u i n) (g ∷ gs) → flagged_join m r n ≡ total m ev (g ∷ gs) → Tally m ev u i (worth m n r u l)
  worth_after g gs all sum = (
    map (λ f. (u, i) ∷ f) (g ∷ gs),
    exactly_like
        (λ a x. (let (f, (v, p, h, t, w), is) = x in subst (Flow ev u i) (sym is) (flow_longer ev u i v p f t w)))
        led
        (map (λ f. (u, i) ∷ f) (g ∷ gs))
        (exactly_map (λ f. (u, i) ∷ f) (λ a b x. cc) (g ∷ gs) all),
    total_longer m admits laws ev (u, i) (mark_is_letter m n k limit ev rg u i (l, e)) (g ∷ gs)
        ∙ stepped m (letter_at ev (u, i)) (letter_of u l) (ap (letter u) e) (flagged_join m r n) (total m ev (g ∷ gs)) sum _ (plus_some m (word_value_back m ev g) (total m ev gs)).1,
  )
    where
      led : (a : List Position) → Flow ev u i a → (f : List Position) × LeadsTo ev u i n f × (a ≡ (u, i) ∷ f)
      led [] w = absurd w
      led (x ∷ []) w = (let (v, p, h, t, y) = all.sound g (inl refl) in absurd (w.1.1 v p t.0 t.2))
      led (x ∷ (y ∷ f)) w = (y ∷ f, leads_to y f w.1 w.2, ap (λ (z : Position). z ∷ (y ∷ f)) w.0)

  pub worth_mark : Tally m ev u i (worth m n r u l)
  worth_mark = go (gathered_all ev m admits laws u i r shown n)
    where
      go : Gathered m ev u i r n → Tally m ev u i (worth m n r u l)
      go ([], all, sum) = worth_first all sum
      go (g ∷ gs, all, sum) = worth_after g gs all sum
