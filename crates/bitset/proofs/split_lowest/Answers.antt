use Rattle.std.proofs.Common.{arith}
use Rattle.bitset.proofs.PartFacts.{lowest_split}
use Rattle.bitset.proofs.split_lowest.Goals as goal

pub returns-else-set-eq0 : goal.returns-else-set-eq0
returns-else-set-eq0 c = lowest_split c.args.set (omega arith) (omega arith)
