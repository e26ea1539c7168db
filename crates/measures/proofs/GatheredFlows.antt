-- The flows that end at the immediate predecessors of a mark, gathered from its unit's row just before it.
-- Cell by cell: a cell without a flag adds no flow, since its unit has no immediate predecessor; a flagged cell adds the flows to the one
-- that its unit has, and their join is the cell's value. Flows to marks of different units differ, so no flow comes twice, and the join
-- over all of them is the join of the cells' values.
use Rattle.std.proofs.Common.{◌≡◌, ℕ, zero, suc, ◌<◌, true, false, ◌⊎◌, List, [], ◌∷◌, ◌++◌, Some, sym, refl, ◌∙◌, subst, ap₂, subst₂, inl, inr, ⊎_elim, arith}
use Rattle.std.proofs.lemmas.Bool.{cases_eq, cases_Bool}
use Rattle.history.specs.Counting.{Among, Exactly}
use Rattle.history.specs.Events.{Events, Position}
use Rattle.history.specs.HappenedBefore.{Immediate}
use Rattle.history.specs.Predecessors.{ShowsPredecessors}
use Rattle.history.specs.declared.cells.Cell.{Cell}
use Rattle.history.proofs.Promises.{exactly_none, exactly_append, exactly_like}
use Rattle.measures.specs.Measures.{Meaning, Lawful}
use Rattle.measures.specs.Worths.{plus, flagged_join}
use Rattle.measures.proofs.BackwardFlows.{Flow, flow_end}
use Rattle.measures.proofs.JoinFacts.{total, total_append}

-- x is the join over a list of exactly the flows that end at the mark (u, i)
abbrev pub Tally : {V : Type 0} → Meaning V → Events → ℕ → ℕ → V → Type 0
Tally m ev u i x = (fs : List (List Position)) × Exactly (Flow ev u i) fs × (total m ev fs ≡ Some x)

-- f is a flow that ends at an immediate predecessor of the mark (u, i), made by a unit below n
abbrev pub LeadsTo : Events → ℕ → ℕ → ℕ → List Position → Type 0
LeadsTo ev u i n f = (v p : ℕ) × (v < n) × Immediate ev v p u i × Flow ev v p f

-- what the row r has gathered below n is the join over a list of exactly these flows
abbrev pub Gathered : {V : Type 0} → Meaning V → Events → ℕ → ℕ → (ℕ → Cell V) → ℕ → Type 0
Gathered m ev u i r n = (fs : List (List Position)) × Exactly (LeadsTo ev u i n) fs × (flagged_join m r n ≡ total m ev fs)

total_some : {V : Type 0} (m : Meaning V) (ev : Events) (x : V) (fs : List (List Position)) → total m ev fs ≡ Some x → (f : List Position) × Among f fs
total_some m ev x [] e = cc
total_some m ev x (f ∷ fs) e = (f, inl refl)

module _ {V : Type 0} (ev : Events) (m : Meaning V) (admits : V → Type 0) (laws : Lawful m admits) (u i : ℕ) (r : ℕ → Cell V) (shown : ShowsPredecessors ev (Tally m ev) u i r) where
  -- to each immediate predecessor there is a flow
  pub flow_to : (v p : ℕ) → Immediate ev v p u i → (f : List Position) × Flow ev v p f
  flow_to v p t =
      let (q, s, (fs, all, sum)) = shown.flagged v (shown.known v p t) in
      let (f, a) = total_some m ev (r v).value fs sum in
      (f, subst (λ (k : ℕ). Flow ev v k f) (shown.single v q p s t) (all.sound f a))

  module _ (j : ℕ) where
    gathered_passed : (r j).flag ≡ false → Gathered m ev u i r j → Gathered m ev u i r (suc j)
    gathered_passed e (fs, all, sum) = (fs, exactly_like (λ f x. (x.0, x.1, (let h = x.2 in omega arith), x.3, x.4)) (λ f x. below x.0 x.1 f x.2 x.3 x.4) fs all, rw e sum)
      where
        below : (v p : ℕ) (f : List Position) → v < suc j → Immediate ev v p u i → Flow ev v p f → LeadsTo ev u i j f
        below v p f h t w = elim (cases_eq v j) [
          | inl x ↦ (let y = shown.known j p (subst (λ (k : ℕ). Immediate ev k p u i) x t) in cc)
          | inr x ↦ (v, p, omega arith, t, w)
        ]

    gathered_taken : (r j).flag ≡ true → (p : ℕ) → Immediate ev j p u i → Tally m ev j p (r j).value → Gathered m ev u i r j → Gathered m ev u i r (suc j)
    gathered_taken e p t (gs, ends, tot) (fs, all, sum) = (
      fs ++ gs,
      exactly_like
          (λ f. ⊎_elim (λ x. (x.0, x.1, (let h = x.2 in omega arith), x.3, x.4)) (λ w. (j, p, omega arith, t, w)))
          (λ f x. either x.0 x.1 f x.2 x.3 x.4)
          (fs ++ gs)
          (exactly_append (λ f x w. (let same = flow_end ev x.0 x.1 j p f x.4 w in let h = x.2 in omega arith)) fs gs all ends),
      rw e (ap₂ (plus m) sum (sym tot) ∙ sym (total_append m admits laws ev fs gs)),
    )
      where
        either : (v q : ℕ) (f : List Position) → v < suc j → Immediate ev v q u i → Flow ev v q f → LeadsTo ev u i j f ⊎ Flow ev j p f
        either v q f h s w = elim (cases_eq v j) [
          | inl x ↦ inr (subst₂ (λ a b. Flow ev a b f) x (shown.single j q p (subst (λ (k : ℕ). Immediate ev k q u i) x s) t) w)
          | inr x ↦ inl (v, q, omega arith, s, w)
        ]

  pub gathered_all : (n : ℕ) → Gathered m ev u i r n
  gathered_all zero = ([], exactly_none (λ f x. (let h = x.2 in omega arith)), refl)
  gathered_all (suc j) = elim (cases_Bool (r j).flag) [
    | inl e ↦ (let (p, t, w) = shown.flagged j e in gathered_taken j e p t w (gathered_all j))
    | inr e ↦ gathered_passed j e (gathered_all j)
  ]
