-- Words of labels.
use Rattle.std.specs.Prelude.{ℕ, ◌<◌}
use Rattle.std.specs.List.{AllByRecursion}
pub use Rattle.history.specs.Words.{Letter, Word, letter_of, label_of}

-- each letter of the word is a label below n
abbrev pub Labels : ℕ → Word → Type 0
Labels n w = AllByRecursion (λ l. label_of l < n) w
