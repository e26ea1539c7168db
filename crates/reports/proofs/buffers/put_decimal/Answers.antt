use Rattle.std.proofs.Common.{arith, lit<}
use Rattle.std.proofs.lemmas.Fmt.{length-decimal-le}
use Rattle.reports.proofs.buffers.put_decimal.Goals as goal

pub put_small-requires : goal.put_small-requires
put_small-requires c = (omega arith, omega (arith, length-decimal-le 20 c.args.n (lit< tt) (omega arith) (omega arith)))

pub put_short-requires : goal.put_short-requires
put_short-requires c = (omega arith, omega (arith, length-decimal-le 20 c.args.n (lit< tt) (omega arith) (omega arith)))

pub put_five-requires : goal.put_five-requires
put_five-requires c = (omega arith, omega arith, omega (arith, length-decimal-le 20 c.args.n (lit< tt) (omega arith) (omega arith)))

pub put_long-requires : goal.put_long-requires
put_long-requires c = (omega arith, omega (arith, length-decimal-le 20 c.args.n (lit< tt) (omega arith) (omega arith)))

pub returns-then-n-lt10-clause-short : goal.returns-then-n-lt10-clause-short
returns-then-n-lt10-clause-short c = omega (arith, length-decimal-le 20 c.args.n (lit< tt) (omega arith) (omega arith))

pub returns-then-n-lt10000-clause-short : goal.returns-then-n-lt10000-clause-short
returns-then-n-lt10000-clause-short c = omega (arith, length-decimal-le 20 c.args.n (lit< tt) (omega arith) (omega arith))

pub returns-then-n-lt100000-clause-short : goal.returns-then-n-lt100000-clause-short
returns-then-n-lt100000-clause-short c = omega (arith, length-decimal-le 20 c.args.n (lit< tt) (omega arith) (omega arith))

pub returns-else-n-lt100000-clause-short : goal.returns-else-n-lt100000-clause-short
returns-else-n-lt100000-clause-short c = omega (arith, length-decimal-le 20 c.args.n (lit< tt) (omega arith) (omega arith))
