-- The measure of words is lawful, so the law of runs holds under it.
use Rattle.std.proofs.Common.{◌≡◌, ℕ, ◌+◌, ◌<◌, ◌≤◌, [], ◌∷◌, refl, arith}
use Rattle.std.proofs.Math.Path.{fun_ext}
use Rattle.std.proofs.lemmas.Bool.{lt-ltb, le-ltb, cond-false}
use Rattle.measures.specs.Limits.{most_labels}
use Rattle.measures.specs.Words.{Letter, Word}
use Rattle.measures.specs.Measures.{Lawful}
use Rattle.measures.specs.Laws.{LawOfRuns}
use Rattle.measures.proofs.Promises.{law_of_runs}
use Rattle.examples.specs.WorkedRuns.{words, put_first}

put_first_joined : (l : Letter) (f g : Word → ℕ) (w : Word) → put_first l (λ v. f v + g v) w ≡ put_first l f w + put_first l g w
put_first_joined l f g [] = refl
put_first_joined l f g (x ∷ w) = grind arith

words_lawful : (n : ℕ) → (0 < n) × (n ≤ most_labels) → Lawful (words n) (λ f. Unit {0})
words_lawful n in_range = record {
  label_range = in_range;
  start_admitted = tt;
  step_admitted = λ a l ha. tt;
  join_admitted = λ a b ha hb. tt;
  unlabelled = λ a l h. cond-false _ _ a (le-ltb l n (omega arith));
  commutes = λ a b _ _. fun_ext (λ w. omega arith);
  associates = λ a b c _ _ _. fun_ext (λ w. omega arith);
  distributes = λ a b l _ _ h. rw (lt-ltb l n h) (fun_ext (put_first_joined l a b));
}

pub law_of_words : (n : ℕ) → (0 < n) × (n ≤ most_labels) → LawOfRuns (words n)
law_of_words n in_range = law_of_runs (words n) (λ f. Unit {0}) (words_lawful n in_range)
