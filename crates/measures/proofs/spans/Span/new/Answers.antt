use Rattle.std.proofs.Common.{arith}
use Rattle.measures.proofs.FlowSizes.{marks_spanned}
use Rattle.measures.proofs.spans.Span.new.Goals as goal

pub returns-clause-runs : goal.returns-clause-runs
returns-clause-runs c = let in_range = c.in_ok-labels.labels.in_range in marks_spanned _ (omega arith)
