use Rattle.std.proofs.Common.{arith}
use Rattle.measures.proofs.FlowSizes.{marks_counted}
use Rattle.measures.proofs.counts.FlowCount.new.Goals as goal

pub returns-clause-runs : goal.returns-clause-runs
returns-clause-runs c = let in_range = c.in_ok-labels.labels.in_range in marks_counted _ (omega arith)
