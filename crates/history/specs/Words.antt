-- Letters and words.
use Rattle.std.specs.Prelude.{ℕ, List}

-- A letter is what a word says of one mark: the mark's label.
abbrev pub Letter : Type 0
Letter = ℕ

-- A word is a list of letters.
abbrev pub Word : Type 0
Word = List Letter

-- the letter of a mark of unit u with label l
abbrev pub letter_of : ℕ → ℕ → Letter
letter_of u l = l

-- the label of a letter
abbrev pub label_of : Letter → ℕ
label_of l = l
