-- Patterns as measures and judges.
use Rattle.std.specs.Prelude.{ℕ, ◌+◌, ◌*◌, ◌^◌, ◌<◌, Bool, List}
use Rattle.bitset.specs.Sets.{Member, meets, within}
use Rattle.measures.specs.declared.patterns.Pattern.{Pattern}
use Rattle.measures.specs.Automata.{state_sets, next, leads}
use Rattle.measures.specs.Formats.{PatternOf, head_size}
use Rattle.measures.specs.Measures.{Lawful, Meaning}
use Rattle.measures.specs.StateSetLaws.{state_sets_lawful}
use Rattle.measures.specs.Words.{Word}

module _ (p : Pattern) where
  -- the pattern as a measure: the set of states to which the words lead
  abbrev pub pattern_meaning : Meaning ℕ
  pattern_meaning = state_sets p.head.states.number p.head.labels.number p.head.start p.table

  -- the sets that it admits: the non-empty sets of its states
  abbrev pub IsStateSet : ℕ → Type 0
  IsStateSet set = (0 < set) × (set < 2 ^ p.head.states.number)

  pub pattern_lawful : Lawful pattern_meaning IsStateSet
  pattern_lawful = state_sets_lawful p.head.states.number p.head.labels.number p.head.start p.table p.head.labels.in_range p.head.start_state p.complete

  -- a word is good if it leads from the start state to a final state
  abbrev pub pattern_good : Word → Type 0
  pattern_good w = Member (leads (next p.head.labels.number p.table) p.head.start w) p.head.finals

  -- whether some state of a set is final
  abbrev pub some_final : ℕ → Bool
  some_final set = meets set p.head.finals

  -- whether each is
  abbrev pub all_final : ℕ → Bool
  all_final set = within set p.head.finals

  -- the number of bytes that it was read from
  abbrev pub bytes_read : ℕ
  bytes_read = head_size + p.head.states.number * p.head.labels.number

-- The parts of the pattern are those that its bytes b give.
abbrev pub IsPatternOf : List ℕ → Pattern → Type 0
IsPatternOf b p = PatternOf b p.head.states.number p.head.labels.number p.head.start p.head.finals p.table
