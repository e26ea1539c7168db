-- A judge's two answers tell of the longest flows.
-- The value of a mark is a join over a list of their values. An answer that goes through joins by or is yes of such a join exactly when it is yes of
-- one of the joined, by induction over the list, and one that goes through them by and when it is yes of all; of one flow the judge decides.
use Rattle.std.proofs.Common.{◌≡◌, ℕ, Bool, true, ◌&&◌, ◌||◌, ◌⊎◌, List, [], ◌∷◌, map, Decides, sym, refl, ap, ◌∙◌, subst, inl, inr, ⊎_elim}
use Rattle.std.proofs.lemmas.Bool.Decides.{Decides-at}
use Rattle.std.proofs.lemmas.Bool.{or_cases, or_left, or_right, and_parts, and_from}
use Rattle.history.specs.Counting.{Among, Exactly}
use Rattle.history.specs.Events.{Events, Position}
use Rattle.history.specs.Flows.{Opens, Linked, Longest, letter_at, word}
use Rattle.history.specs.Runs.{Ranged}
use Rattle.measures.specs.Words.{Word}
use Rattle.measures.specs.Measures.{Meaning, Lawful, IsLetterOf, Spelled, word_value_from, word_value, join_of}
use Rattle.measures.specs.Judges.{Judges}
use Rattle.measures.specs.Worths.{measured_size}
use Rattle.measures.specs.Laws.{join_over, accepted_events, MarksJudged}
use Rattle.measures.proofs.WorthFacts.{mark_is_letter}
use Rattle.measures.proofs.ValueFacts.{ranged, valued}

module _ {V : Type 0} (m : Meaning V) (admits : V → Type 0) (laws : Lawful m admits) where
  word_value_admitted : (v : V) (w : Word) → admits v → admits (word_value_from m v w)
  word_value_admitted v [] h = h
  word_value_admitted v (l ∷ w) h = word_value_admitted (m.step v l) w (laws.step_admitted v l h)

  -- an answer that goes through joins by or: yes of a join exactly when yes of one of the joined
  module _ {A : Type 0} (c : A → V) (in' : (a : A) → admits (c a)) (answer : V → Bool) where
    module _ (joins : (a b : V) → admits a → admits b → answer (m.join a b) ≡ (answer a || answer b)) where
      pub or_joined : (v : V) → admits v → (l : List A) → answer (join_of m v (map c l)) ≡ true → (answer v ≡ true) ⊎ ((a : A) × Among a l × (answer (c a) ≡ true))
      or_joined v h [] e = inl e
      or_joined v h (x ∷ l) e =
          ⊎_elim
          (λ y. ⊎_elim inl (λ z. inr (x, inl refl, z)) (or_cases (answer v) (answer (c x)) (sym (joins v (c x) h (in' x)) ∙ y)))
          (λ y. inr (y.0, inr y.1, y.2))
          (or_joined (m.join v (c x)) (laws.join_admitted v (c x) h (in' x)) l e)

      pub joined_or : (v : V) → admits v → (l : List A) → (answer v ≡ true) ⊎ ((a : A) × Among a l × (answer (c a) ≡ true)) → answer (join_of m v (map c l)) ≡ true
      joined_or v h [] (inl e) = e
      joined_or v h [] (inr e) = absurd e.1
      joined_or v h (x ∷ l) e = joined_or (m.join v (c x)) (laws.join_admitted v (c x) h (in' x)) l (first e)
        where
          here : (answer v || answer (c x)) ≡ true → (answer (m.join v (c x)) ≡ true) ⊎ ((a : A) × Among a l × (answer (c a) ≡ true))
          here y = inl (joins v (c x) h (in' x) ∙ y)

          first : (answer v ≡ true) ⊎ ((a : A) × Among a (x ∷ l) × (answer (c a) ≡ true)) → (answer (m.join v (c x)) ≡ true) ⊎ ((a : A) × Among a l × (answer (c a) ≡ true))
          first (inl y) = here (or_left (answer v) (answer (c x)) y)
          first (inr (a, inl y, z)) = here (or_right (answer v) (answer (c x)) (subst (λ (b : A). answer (c b) ≡ true) y z))
          first (inr (a, inr y, z)) = inr (a, y, z)

    -- one that goes through joins by and: yes of a join exactly when yes of all that are joined
    module _ (joins : (a b : V) → admits a → admits b → answer (m.join a b) ≡ (answer a && answer b)) where
      pub and_joined : (v : V) → admits v → (l : List A) → answer (join_of m v (map c l)) ≡ true → (answer v ≡ true) × ((a : A) → Among a l → answer (c a) ≡ true)
      and_joined v h [] e = (e, λ a i. absurd i)
      and_joined v h (x ∷ l) e =
          let (y, rest) = and_joined (m.join v (c x)) (laws.join_admitted v (c x) h (in' x)) l e in
          let (p, q) = and_parts (answer v) (answer (c x)) (sym (joins v (c x) h (in' x)) ∙ y) in
          (p, λ a. ⊎_elim (λ z. subst (λ (b : A). answer (c b) ≡ true) (sym z) q) (rest a))

      pub joined_and : (v : V) → admits v → (l : List A) → answer v ≡ true → ((a : A) → Among a l → answer (c a) ≡ true) → answer (join_of m v (map c l)) ≡ true
      joined_and v h [] e f = e
      joined_and v h (x ∷ l) e f =
          joined_and (m.join v (c x)) (laws.join_admitted v (c x) h (in' x)) l
          (joins v (c x) h (in' x) ∙ and_from (answer v) (answer (c x)) e (f x (inl refl))) (λ a i. f a (inr i))

-- the word of a longest flow is spelled in the measure's letters
pub flow_spelled : {V : Type 0} (m : Meaning V) (n k limit : ℕ) (ev : Events) → Ranged ev (measured_size m n k limit) → (u i : ℕ) (f : List Position) → Opens ev f → Linked ev f → Spelled m (word ev f)
flow_spelled m n k limit ev rg u i [] o l = tt
flow_spelled m n k limit ev rg u i (x ∷ f) o l = spelled x f (mark_is_letter m n k limit ev rg x.0 x.1 o.0) l
  where
    spelled : (x : Position) (f : List Position) → IsLetterOf m (letter_at ev x) → Linked ev (x ∷ f) → Spelled m (word ev (x ∷ f))
    spelled x [] h l = (h, tt)
    spelled x (y ∷ f) h l = (h, spelled y f (mark_is_letter m n k limit ev rg y.0 y.1 l.0.1) l.1)

module _ {V : Type 0} (m : Meaning V) (admits : V → Type 0) (laws : Lawful m admits) (n k limit : ℕ) (ev : Events) (rg : Ranged ev (measured_size m n k limit)) (u i : ℕ) (answer : V → Bool) (good : Word → Type 0) where
  -- of one longest flow the answer says whether it is good
  flow_decided : {op : Bool → Bool → Bool} → Judges op m admits answer good → (f : List Position) → Longest ev u i f → Decides (answer (word_value m (word ev f))) (good (word ev f))
  flow_decided judge [] h = absurd h.0
  flow_decided judge (x ∷ f) h = judge.decides (letter_at ev x) (word ev f) (flow_spelled m n k limit ev rg u i (x ∷ f) h.0 h.1)

  inside : (g : List Position) → admits (word_value m (word ev g))
  inside g = word_value_admitted m admits laws m.start (word ev g) laws.start_admitted

  module _ (f : List Position) (fs : List (List Position)) (all : Exactly (Longest ev u i) (f ∷ fs)) where
    pub some_decided : Judges ◌||◌ m admits answer good → Decides (answer (join_over m ev f fs)) ((g : List Position) × Longest ev u i g × good (word ev g))
    some_decided judge = ((λ e. found (or_joined m admits laws (λ g. word_value m (word ev g)) inside answer judge.joins (word_value m (word ev f)) (inside f) fs e)), λ p. joined_or m admits laws (λ g. word_value m (word ev g)) inside answer judge.joins (word_value m (word ev f)) (inside f) fs (chosen p))
      where
        found : (answer (word_value m (word ev f)) ≡ true) ⊎ ((g : List Position) × Among g fs × (answer (word_value m (word ev g)) ≡ true)) → (g : List Position) × Longest ev u i g × good (word ev g)
        found (inl e) = (f, all.sound f (inl refl), (flow_decided judge f (all.sound f (inl refl))).0 e)
        found (inr (g, a, e)) = (g, all.sound g (inr a), (flow_decided judge g (all.sound g (inr a))).0 e)

        chosen : (g : List Position) × Longest ev u i g × good (word ev g) → (answer (word_value m (word ev f)) ≡ true) ⊎ ((g : List Position) × Among g fs × (answer (word_value m (word ev g)) ≡ true))
        chosen (g, h, w) =
            ⊎_elim
            (λ e. inl (subst (λ (b : List Position). answer (word_value m (word ev b)) ≡ true) e ((flow_decided judge g h).1 w)))
            (λ a. inr (g, a, (flow_decided judge g h).1 w))
            (all.complete g h)

    pub all_decided : Judges ◌&&◌ m admits answer good → Decides (answer (join_over m ev f fs)) ((g : List Position) → Longest ev u i g → good (word ev g))
    all_decided judge = (
      (λ e g h.
          let (p, rest) = and_joined m admits laws (λ g. word_value m (word ev g)) inside answer judge.joins (word_value m (word ev f)) (inside f) fs e in
          (flow_decided judge g h).0 (⊎_elim (λ x. subst (λ (b : List Position). answer (word_value m (word ev b)) ≡ true) (sym x) p) (rest g) (all.complete g h))),
      (λ p. joined_and m admits laws (λ g. word_value m (word ev g)) inside answer judge.joins (word_value m (word ev f)) (inside f) fs
          ((flow_decided judge f (all.sound f (inl refl))).1 (p f (all.sound f (inl refl))))
          (λ g a. (flow_decided judge g (all.sound g (inr a))).1 (p g (all.sound g (inr a))))),
    )

pub marks_judged : {V : Type 0} (m : Meaning V) (admits : V → Type 0) → Lawful m admits → (some all : V → Bool) (good : Word → Type 0)
    → Judges ◌||◌ m admits some good → Judges ◌&&◌ m admits all good → MarksJudged m some all good
marks_judged m admits laws some all good by_some by_all n k limit cs u i l e =
    let v = valued m admits laws n k limit cs u i l e in
    let ev = accepted_events m n k limit cs in
    let rg = ranged m admits laws n k limit cs in (
      v,
      record {
        some_flow = Decides-at _ _ (ap some v.value_is) (some_decided m admits laws n k limit ev rg u i some good v.flow v.flows v.all by_some);
        all_flows = Decides-at _ _ (ap all v.value_is) (all_decided m admits laws n k limit ev rg u i all good v.flow v.flows v.all by_all);
      },
    )
