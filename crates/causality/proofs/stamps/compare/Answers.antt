use Rattle.std.proofs.Common.{rules}
use Rattle.causality.proofs.ComparisonFacts.{orders_marks_by}
use Rattle.causality.proofs.stamps.compare.Goals as goal

pub returns-then-not-are_stamps-clause-order : goal.returns-then-not-are_stamps-clause-order
returns-then-not-are_stamps-clause-order c = orders_marks_by c.args.p.clocks.now c.args.q.clocks.now c.args.p.unit c.args.q.unit _ (search rules)

pub returns-then-p-clause-order : goal.returns-then-p-clause-order
returns-then-p-clause-order c = orders_marks_by c.args.p.clocks.now c.args.q.clocks.now c.args.p.unit c.args.q.unit _ (search rules)

pub returns-clause-order : goal.returns-clause-order
returns-clause-order c = orders_marks_by c.args.p.clocks.now c.args.q.clocks.now c.args.p.unit c.args.q.unit _ (search rules)
