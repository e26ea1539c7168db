-- The stamp of a mark.
use Rattle.std.specs.Prelude.{ℕ}
use Rattle.history.specs.Events.{Events}
use Rattle.history.specs.Marks.{IsMark}
use Rattle.history.specs.HappenedBefore.{AtOrBefore}
use Rattle.history.specs.Counting.{HowMany}

-- The stamp of the mark at position i of unit u has for each unit v the number of v's marks that are this mark or before it.
abbrev pub Stamp : Events → ℕ → ℕ → (ℕ → ℕ) → Type 0
Stamp ev u i stamp = (v : ℕ) → HowMany (λ j. IsMark ev v j × AtOrBefore ev v j u i) (stamp v)
