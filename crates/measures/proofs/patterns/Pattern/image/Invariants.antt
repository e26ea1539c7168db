use Rattle.std.proofs.Common.{◌≡◌, ℕ, ◌<◌, bit_or}
use Rattle.bitset.specs.Sets.{Member}
use Rattle.measures.specs.Automata.{next, image}
use Rattle.measures.proofs.patterns.Pattern.image.Given as goal

-- what is left has states alone, and with where they go the result is whole
abbrev pub invariant-loop-q : goal.invariant-loop-q
invariant-loop-q l = record {
  states : (p : ℕ) → Member p l.rest → p < l.self.head.states.number;
  whole : (let f = next l.self.head.labels.number l.self.table l.l in let n = l.self.head.states.number in
      bit_or l.out (image f n l.rest) ≡ image f n l.set);
}

-- the set that is left becomes smaller
abbrev pub decreases-loop-q : goal.decreases-loop-q
decreases-loop-q l = l.rest
