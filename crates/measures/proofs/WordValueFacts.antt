-- What the laws of a measure say along words and over lists of values.
use Rattle.std.proofs.Common.{◌≡◌, ℕ, ◌+◌, ◌<◌, [], ◌∷◌, ◌++◌, map, length, get_or, take, refl, ap, ◌∙◌}
use Rattle.std.proofs.lemmas.List.{take_more}
use Rattle.measures.specs.Words.{Letter, Word, letter_of}
use Rattle.measures.specs.Measures.{Meaning, Spelled, Lawful, word_value_from, word_value, join_of, ThroughJoins}

module _ {V : Type 0} (m : Meaning V) where
  pub word_value_push : (v : V) (w : Word) (l : Letter) → word_value_from m v (w ++ l ∷ []) ≡ m.step (word_value_from m v w) l
  word_value_push v [] l = refl
  word_value_push v (x ∷ w) l = word_value_push (m.step v x) w l

  -- the value of the first letters of a word, and of one letter more
  pub word_value_more : (w : Word) (i : ℕ) → i < length w → word_value m (take (i + 1) w) ≡ m.step (word_value m (take i w)) (get_or w i (letter_of 0 0))
  word_value_more w i h = ap (word_value m) (take_more w i (letter_of 0 0) h) ∙ word_value_push m.start (take i w) (get_or w i (letter_of 0 0))

  module _ (admits : V → Type 0) (laws : Lawful m admits) where
    pub word_value_join : (a b : V) (w : Word) → admits a → admits b → Spelled m w → word_value_from m (m.join a b) w ≡ m.join (word_value_from m a w) (word_value_from m b w)
    word_value_join a b [] ha hb ls = refl
    word_value_join a b (l ∷ w) ha hb ls =
        ap (λ (x : V). word_value_from m x w) (laws.distributes a b l ha hb ls.0)
        ∙ word_value_join (m.step a l) (m.step b l) w (laws.step_admitted a l ha) (laws.step_admitted b l hb) ls.1

    pub through_joins : ThroughJoins m admits
    through_joins v [] w hv hs ls = refl
    through_joins v (x ∷ xs) w hv hs ls =
        through_joins (m.join v x) xs w (laws.join_admitted v x hv hs.0) hs.1 ls
        ∙ ap (λ (y : V). join_of m y (map (λ z. word_value_from m z w) xs)) (word_value_join v x w hv hs.0 ls)
