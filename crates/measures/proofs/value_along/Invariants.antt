use Rattle.std.proofs.Common.{◌≡◌, take}
use Rattle.measures.specs.Measures.{word_value}
use Rattle.measures.proofs.value_along.Given as goal

-- v is the value of the letters so far
abbrev pub invariant-loop-l : goal.invariant-loop-l
invariant-loop-l g l = l.v ≡ word_value (g.M.Measure.meaning l.m) (take l.l-index l.word)
