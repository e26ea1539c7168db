-- Joins over lists of flows that have the last mark in front.
-- A list may be empty here, so a join is an option. It does not care for the order of the list, since a join commutes and associates; and to add a
-- mark to every flow is to step the join, since a step goes through joins.
use Rattle.std.proofs.Common.{◌≡◌, List, [], ◌∷◌, ◌++◌, map, reverse, Some, None, Option, sym, refl, ap, ◌∙◌}
use mathlib.Core.List.{reverse-cons}
use Rattle.std.specs.Option.{IfSome, option_map}
use Rattle.std.proofs.lemmas.List.{map_push}
use Rattle.history.specs.Counting.{Exactly}
use Rattle.history.specs.Events.{Events, Position}
use Rattle.history.specs.Flows.{letter_at, word}
use Rattle.history.proofs.Promises.{exactly_same}
use Rattle.measures.specs.Words.{Letter}
use Rattle.measures.specs.Measures.{Meaning, Lawful, IsLetterOf, word_value, join_of}
use Rattle.measures.specs.Worths.{plus}
use Rattle.measures.proofs.WordValueFacts.{word_value_push}

module _ {V : Type 0} (m : Meaning V) (ev : Events) where
  -- the value of a flow that is listed with its last mark first
  abbrev pub word_value_back : List Position → V
  word_value_back [] = m.start
  word_value_back (x ∷ f) = m.step (word_value_back f) (letter_at ev x)

  -- the join over a list of such flows
  abbrev pub total : List (List Position) → Option V
  total [] = None
  total (f ∷ fs) = plus m (Some (word_value_back f)) (total fs)

  pub word_value_back_word : (f : List Position) → word_value_back f ≡ word_value m (word ev (reverse f))
  word_value_back_word [] = refl
  word_value_back_word (x ∷ f) =
      ap (λ (a : V). m.step a (letter_at ev x)) (word_value_back_word f)
      ∙ sym (ap (word_value m) (ap (word ev) (reverse-cons x f) ∙ map_push (letter_at ev) (reverse f) x) ∙ word_value_push m m.start (word ev (reverse f)) (letter_at ev x))

module _ {V : Type 0} (m : Meaning V) (admits : V → Type 0) (laws : Lawful m admits) (ev : Events) where
  plus_admitted : (x y : Option V) → IfSome x admits → IfSome y admits → IfSome (plus m x y) admits
  plus_admitted None y p q = q
  plus_admitted (Some x) None p q = p
  plus_admitted (Some x) (Some y) p q = laws.join_admitted x y p q

  plus_assoc : (x y z : Option V) → IfSome x admits → IfSome y admits → IfSome z admits → plus m (plus m x y) z ≡ plus m x (plus m y z)
  plus_assoc None y z p q r = refl
  plus_assoc (Some x) None None p q r = refl
  plus_assoc (Some x) None (Some z) p q r = refl
  plus_assoc (Some x) (Some y) None p q r = refl
  plus_assoc (Some x) (Some y) (Some z) p q r = ap Some (laws.associates x y z p q r)

  plus_comm : (x y : Option V) → IfSome x admits → IfSome y admits → plus m x y ≡ plus m y x
  plus_comm None None p q = refl
  plus_comm None (Some y) p q = refl
  plus_comm (Some x) None p q = refl
  plus_comm (Some x) (Some y) p q = ap Some (laws.commutes x y p q)

  plus_step : (l : Letter) → IsLetterOf m l → (x y : Option V) → IfSome x admits → IfSome y admits
      → option_map (λ a. m.step a l) (plus m x y) ≡ plus m (option_map (λ a. m.step a l) x) (option_map (λ a. m.step a l) y)
  plus_step l h None y p q = refl
  plus_step l h (Some x) None p q = refl
  plus_step l h (Some x) (Some y) p q = ap Some (laws.distributes x y l p q h)

  word_value_back_admitted : (f : List Position) → admits (word_value_back m ev f)
  word_value_back_admitted [] = laws.start_admitted
  word_value_back_admitted (x ∷ f) = laws.step_admitted (word_value_back m ev f) (letter_at ev x) (word_value_back_admitted f)

  total_admitted : (fs : List (List Position)) → IfSome (total m ev fs) admits
  total_admitted [] = tt
  total_admitted (f ∷ fs) = plus_admitted (Some (word_value_back m ev f)) (total m ev fs) (word_value_back_admitted f) (total_admitted fs)

  pub total_append : (fs gs : List (List Position)) → total m ev (fs ++ gs) ≡ plus m (total m ev fs) (total m ev gs)
  total_append [] gs = refl
  total_append (f ∷ fs) gs =
      ap (plus m (Some (word_value_back m ev f))) (total_append fs gs)
      ∙ sym (plus_assoc (Some (word_value_back m ev f)) (total m ev fs) (total m ev gs) (word_value_back_admitted f) (total_admitted fs) (total_admitted gs))

  -- one more mark at the end of every flow
  pub total_longer : (x : Position) → IsLetterOf m (letter_at ev x) → (fs : List (List Position)) → total m ev (map (λ f. x ∷ f) fs) ≡ option_map (λ a. m.step a (letter_at ev x)) (total m ev fs)
  total_longer x h [] = refl
  total_longer x h (f ∷ fs) =
      ap (plus m (Some (word_value_back m ev (x ∷ f)))) (total_longer x h fs)
      ∙ sym (plus_step (letter_at ev x) h (Some (word_value_back m ev f)) (total m ev fs) (word_value_back_admitted f) (total_admitted fs))

  total_around : (f : List Position) (s t : List (List Position)) → total m ev (s ++ (f ∷ t)) ≡ total m ev (f ∷ (s ++ t))
  total_around f s t =
      let c = word_value_back_admitted f in
      let i = total_admitted s in
      let j = total_admitted t in
      total_append s (f ∷ t)
      ∙ sym (plus_assoc (total m ev s) (Some (word_value_back m ev f)) (total m ev t) i c j)
      ∙ ap (λ (x : Option V). plus m x (total m ev t)) (plus_comm (total m ev s) (Some (word_value_back m ev f)) i c)
      ∙ plus_assoc (Some (word_value_back m ev f)) (total m ev s) (total m ev t) c i j
      ∙ ap (plus m (Some (word_value_back m ev f))) (sym (total_append s t))

  -- the join does not depend on the order of the flows
  pub exactly_total : {P : List Position → Type 0} (fs gs : List (List Position)) → Exactly P fs → Exactly P gs → total m ev fs ≡ total m ev gs
  exactly_total = exactly_same (λ x y. total m ev x ≡ total m ev y) refl (λ f x s t h. ap (plus m (Some (word_value_back m ev f))) h ∙ sym (total_around f s t))

  -- the join in turn, from the first flow on
  joined_plus : (a : V) (fs : List (List Position)) → admits a → plus m (Some a) (total m ev fs) ≡ Some (join_of m a (map (word_value_back m ev) fs))
  joined_plus a [] p = refl
  joined_plus a (f ∷ fs) p =
      sym (plus_assoc (Some a) (Some (word_value_back m ev f)) (total m ev fs) p (word_value_back_admitted f) (total_admitted fs))
      ∙ joined_plus (m.join a (word_value_back m ev f)) fs (laws.join_admitted a (word_value_back m ev f) p (word_value_back_admitted f))

  pub total_joined : (f : List Position) (fs : List (List Position)) → total m ev (f ∷ fs) ≡ Some (join_of m (word_value_back m ev f) (map (word_value_back m ev) fs))
  total_joined f fs = joined_plus (word_value_back m ev f) fs (word_value_back_admitted f)
