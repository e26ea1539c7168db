use Rattle.std.proofs.Common.{ℕ, ◌*◌, ◌<◌, get_or, arith}
use Rattle.std.proofs.lemmas.Grind.{common_steps}
use Rattle.measures.specs.Formats.{PatternOf}
use Rattle.measures.specs.Limits.{most_entries}
use Rattle.measures.proofs.ReachFacts.{marks_reach}
use Rattle.measures.proofs.PatternFacts.{with_zeros_complete, recognizes}
use Rattle.measures.proofs.patterns.Pattern.read.Goals as goal

-- what was read has the parts that the bytes give, and a complete table
read_is : (c : goal.After-result-1) → (let h = c.in_ok-head.head in
    PatternOf c.args.input.now h.states.number h.labels.number h.start h.finals c.with_zeros.result
    × ((k : ℕ) → k < h.states.number * h.labels.number → get_or c.with_zeros.result k 0 < h.states.number))
read_is c =
    let h = c.in_ok-head.head in (
      grind (arith, common_steps, c.in_ok-head.ensures, c.in_ok-table.ensures),
      with_zeros_complete most_entries h.states.number (h.states.number * h.labels.number) c.in_ok-table.table.now c.with_zeros.result c.with_zeros.ensures (λ k l. c.in_ok-table.ensures.3 k (omega arith)),
    )

pub returns-clause-recognizes : goal.returns-clause-recognizes
returns-clause-recognizes c =
    let h = c.in_ok-head.head in
    recognizes c.args.input.now h.states.number h.labels.number h.start h.finals c.with_zeros.result (read_is c).0 h.labels.in_range h.start_state (read_is c).1

pub returns-clause-runs : goal.returns-clause-runs
returns-clause-runs c =
    let h = c.in_ok-head.head in
    marks_reach c.args.input.now h.states.number h.labels.number h.start h.finals c.with_zeros.result (read_is c).0 h.labels.in_range h.start_state (read_is c).1
