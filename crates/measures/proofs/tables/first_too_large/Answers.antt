use Rattle.std.proofs.Common.{arith}
use Rattle.measures.proofs.TableFacts.{first_over_is}
use Rattle.measures.proofs.tables.first_too_large.Goals as goal

pub returns-then-entry-bound : goal.returns-then-entry-bound
returns-then-entry-bound c = grind (arith, first_over_is c.args.bound c.args.table.now c.loop-i.i)

pub returns : goal.returns
returns c = grind (arith, first_over_is c.args.bound c.args.table.now c.loop-i.i)
