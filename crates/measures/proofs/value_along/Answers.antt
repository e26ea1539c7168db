use Rattle.measures.proofs.ValueFacts.{law_of_runs}
use Rattle.measures.proofs.value_along.Goals as goal

pub returns-clause-runs : goal.returns-clause-runs
returns-clause-runs g c = law_of_runs (g.M.Measure.meaning c.args.m.now) (g.M.Measure.admits c.args.m.now) (g.met.M.Measure.lawful c.args.m.now)
