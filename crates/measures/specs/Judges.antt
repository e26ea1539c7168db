-- What a judge shows of its answers.
use Rattle.std.specs.Prelude.{◌≡◌, Bool, ◌∷◌, ◌↔◌, IsTrue}
use Rattle.measures.specs.Words.{Letter, Word}
use Rattle.measures.specs.Measures.{Meaning, Spelled, word_value}

-- An answer goes through a join by `op`, and on the value of a non-empty word it is yes exactly when the word is good.
pub record Judges {V : Type 0} (op : Bool → Bool → Bool) (m : Meaning V) (admits : V → Type 0)
    (answer : V → Bool) (good : Word → Type 0) : Type 0 where
  pub joins : (a b : V) → admits a → admits b → answer (m.join a b) ≡ op (answer a) (answer b)
  pub decides : (l : Letter) (w : Word) → Spelled m (l ∷ w) → (IsTrue (answer (word_value m (l ∷ w))) ↔ good (l ∷ w))
