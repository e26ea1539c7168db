-- A relabelled measure makes of a word what the inner one makes of its translation.
use Rattle.std.specs.Prelude.{◌≡◌, ℕ, ◌<◌, Bool, List, [], ◌∷◌, refl}
use Rattle.std.proofs.Common.{ap}
use Rattle.std.proofs.lemmas.Bool.{lt-ltb}
use Rattle.std.proofs.lemmas.Bool.Decides.{Decides-at}
use Rattle.measures.specs.Words.{Word, Labels}
use Rattle.measures.specs.Measures.{Meaning, word_value_from}
use Rattle.measures.specs.Judges.{Judges}
use Rattle.measures.specs.Relabellings.{inner_label, translation, relabelling}
use Rattle.measures.specs.RelabellingLaws.{inner_label_below}

module _ (entries : List ℕ) (n : ℕ) (some : 0 < n) where
  translated_labels : (w : Word) → Labels n (translation entries n w)
  translated_labels [] = tt
  translated_labels (l ∷ w) = (inner_label_below entries n some l, translated_labels w)

module _ {V : Type 0} (entries : List ℕ) (count : ℕ) (m : Meaning V) where
  word_value_translated : (v : V) (w : Word) → Labels count w → word_value_from (relabelling entries count m) v w ≡ word_value_from m v (translation entries m.labels w)
  word_value_translated v [] ls = refl
  word_value_translated v (l ∷ w) ls =
      rw (lt-ltb l count ls.0) (word_value_translated (m.step v (inner_label entries m.labels l)) w ls.1)

  -- an answer that the inner judge shows is one that the relabelled judge shows of translated words
  pub translated_judges : 0 < m.labels → {op : Bool → Bool → Bool} {admits : V → Type 0} {answer : V → Bool} {good : Word → Type 0}
      → Judges op m admits answer good → Judges op (relabelling entries count m) admits answer (λ w. good (translation entries m.labels w))
  translated_judges some {answer = answer} judge = record {
    joins = judge.joins;
    decides = λ l w ls.
        Decides-at _ _ (ap answer (word_value_translated m.start (l ∷ w) ls))
        (judge.decides (inner_label entries m.labels l) (translation entries m.labels w) (translated_labels entries m.labels some (l ∷ w)));
  }
