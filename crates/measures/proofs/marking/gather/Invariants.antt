use Rattle.measures.proofs.MemberFacts.{SoFar}
use Rattle.measures.proofs.marking.gather.Given as goal

-- the values of the members so far
abbrev pub invariant-loop-j : goal.invariant-loop-j
invariant-loop-j g l = SoFar (g.M.Measure.meaning l.m) l.set l.values l.rest l.all

-- what is left becomes smaller
abbrev pub decreases-loop-j : goal.decreases-loop-j
decreases-loop-j g l = l.rest
