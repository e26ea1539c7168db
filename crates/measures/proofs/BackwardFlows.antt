-- Longest flows with the last mark in front.
-- A flow grows by a mark at its end, so the recursion of what a mark is worth goes along flows that are turned round: a flow to a
-- mark is the mark alone, or the mark in front of a flow to an immediate predecessor. Turning a list round takes these to the
-- longest flows and back, one by one, so lists of exactly the ones become lists of exactly the others.
use Rattle.std.proofs.Common.{◌≡◌, ℕ, List, [], ◌∷◌, ◌++◌, map, reverse, sym, refl, ap, ◌∙◌, subst, arith}
use mathlib.Core.List.{reverse_aux, reverse-cons}
use Rattle.std.proofs.lemmas.List.{reverse-reverse}
use Rattle.history.specs.Events.{Events, Position}
use Rattle.history.specs.HappenedBefore.{Immediate, First}
use Rattle.history.specs.Counting.{Exactly}
use Rattle.history.specs.Flows.{Opens, Linked, EndsAt, Longest}
use Rattle.history.proofs.Promises.{exactly_like, exactly_map}

-- a longest flow ending at the mark (u, i), with its last mark in front
abbrev pub Flow : Events → ℕ → ℕ → List Position → Type 0
Flow ev u i [] = ⊥
Flow ev u i (x ∷ []) = (x ≡ (u, i)) × First ev u i
Flow ev u i (x ∷ (y ∷ f)) = (x ≡ (u, i)) × Immediate ev y.0 y.1 u i × Flow ev y.0 y.1 (y ∷ f)

-- a flow ends at one unit
pub flow_end : (ev : Events) (u i v j : ℕ) (f : List Position) → Flow ev u i f → Flow ev v j f → u ≡ v
flow_end ev u i v j [] a b = absurd a
flow_end ev u i v j (x ∷ []) a b = ap (λ (y : Position). y.0) (sym a.0 ∙ b.0)
flow_end ev u i v j (x ∷ (y ∷ f)) a b = ap (λ (z : Position). z.0) (sym a.0 ∙ b.0)

-- one more mark at the end
pub flow_longer : (ev : Events) (u i v j : ℕ) (f : List Position) → Immediate ev v j u i → Flow ev v j f → Flow ev u i ((u, i) ∷ f)
flow_longer ev u i v j f e h = grind arith

module _ (ev : Events) where
  opens_push : (f : List Position) (x : Position) → Opens ev f → Opens ev (f ++ (x ∷ []))
  opens_push f x o = grind arith

  ends_push : (u i : ℕ) (f : List Position) (x : Position) → x ≡ (u, i) → EndsAt u i (f ++ (x ∷ []))
  ends_push u i [] x e = e
  ends_push u i (y ∷ []) x e = e
  ends_push u i (y ∷ (z ∷ f)) x e = ends_push u i (z ∷ f) x e

  linked_push : (u i : ℕ) (f : List Position) (x : Position) → Linked ev f → EndsAt u i f → Immediate ev u i x.0 x.1 → Linked ev (f ++ (x ∷ []))
  linked_push u i [] x l e h = absurd e
  linked_push u i (y ∷ []) x l e h = grind arith
  linked_push u i (y ∷ (z ∷ f)) x l e h = (l.0, linked_push u i (z ∷ f) x l.1 e h)

  pub flow_longest : (u i : ℕ) (f : List Position) → Flow ev u i f → Longest ev u i (reverse f)
  flow_longest u i [] h = absurd h
  flow_longest u i (x ∷ []) h = grind arith
  flow_longest u i (x ∷ (y ∷ f)) h = let (o, l, e) = flow_longest y.0 y.1 (y ∷ f) h.2 in rw reverse-cons (opens_push (reverse (y ∷ f)) x o, linked_push y.0 y.1 (reverse (y ∷ f)) x l e (grind arith), ends_push u i (reverse (y ∷ f)) x h.0)

  climb : (u i : ℕ) (done : List Position) (y : Position) (f : List Position) → Flow ev y.0 y.1 (y ∷ done) → Linked ev (y ∷ f) → EndsAt u i (y ∷ f) → Flow ev u i (reverse_aux f (y ∷ done))
  climb u i done y [] h l e = subst (λ (z : Position). Flow ev z.0 z.1 (y ∷ done)) e h
  climb u i done y (x ∷ f) h l e = climb u i (y ∷ done) x f (refl, l.0, h) l.1 e

  pub longest_flow : (u i : ℕ) (f : List Position) → Longest ev u i f → Flow ev u i (reverse f)
  longest_flow u i [] h = absurd h.0
  longest_flow u i (x ∷ f) h = climb u i [] x f (refl, h.0) h.1 h.2

-- a list of exactly these, each turned round
reversed : {P Q : List Position → Type 0} → ((f : List Position) → P f → Q (reverse f)) → ((f : List Position) → Q f → P (reverse f)) → (fs : List (List Position)) → Exactly P fs → Exactly Q (map reverse fs)
reversed {P} {Q} to from fs all =
    exactly_like
    (λ f x. subst Q (sym x.2) (to x.0 x.1))
    (λ f x. (reverse f, from f x, sym (reverse-reverse f)))
    (map reverse fs)
    (exactly_map reverse (λ a b e. sym (reverse-reverse a) ∙ ap reverse e ∙ reverse-reverse b) fs all)

pub flows_longest : (ev : Events) (u i : ℕ) (fs : List (List Position)) → Exactly (Flow ev u i) fs → Exactly (Longest ev u i) (map reverse fs)
flows_longest ev u i = reversed (flow_longest ev u i) (longest_flow ev u i)

pub longest_flows : (ev : Events) (u i : ℕ) (fs : List (List Position)) → Exactly (Longest ev u i) fs → Exactly (Flow ev u i) (map reverse fs)
longest_flows ev u i = reversed (longest_flow ev u i) (flow_longest ev u i)
