-- What the contracts of the functions that write a line speak of.
use Rattle.std.specs.Prelude.{ℕ, ◌+◌, ◌/◌, ◌%◌, List, [], ◌∷◌}

-- the two decimal digits of a number below 100
abbrev pub two_digits : ℕ → List ℕ
two_digits n = (48 + n / 10) ∷ (48 + n % 10) ∷ []

-- the text of a report so far, and how many bytes there is room for in all
pub record PageText : Type 0 where
  pub text : List ℕ
  pub room : ℕ
