use Rattle.std.proofs.Common.{◌^◌, ◌*◌, ◌%◌, ◌≡◌, arith, rules}
use Rattle.bitset.proofs.PartFacts.{has_masked, has_below}
use Rattle.bitset.proofs.below.Goals as goal

pub returns-then-n-lt64 : goal.returns-then-n-lt64
returns-then-n-lt64 c = λ p.
    let e : 1 * 2 ^ c.args.n % 2 ^ 64 ≡ 2 ^ c.args.n = search rules in
    rw e (has_masked c.args.set c.args.n p)

pub returns-else-n-lt64 : goal.returns-else-n-lt64
returns-else-n-lt64 c = λ p. has_below c.args.set c.args.n p (omega arith) (omega arith)
