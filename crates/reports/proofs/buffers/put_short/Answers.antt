use Rattle.std.proofs.Common.{refl, arith, append_assoc}
use Rattle.reports.proofs.DecimalFacts.{decimal_pair, length_pair}
use Rattle.reports.proofs.buffers.put_short.Goals as goal

pub put_small-at-requires : goal.put_small-at-requires
put_small-at-requires c =
    let n = c.args.n in
    (omega arith, omega (arith, length_pair n (omega arith) (omega arith)))

pub put_pair-requires : goal.put_pair-requires
put_pair-requires c =
    let n = c.args.n in
    (omega arith, omega (arith, length_pair n (omega arith) (omega arith)))

pub returns-clause-text : goal.returns-clause-text
returns-clause-text c =
    let n = c.args.n in
    rw (c.put_pair.ensures.text, c.put_small-at.ensures.text, append_assoc, decimal_pair n (omega arith) (omega arith)) refl

pub returns-clause-end : goal.returns-clause-end
returns-clause-end c =
    let n = c.args.n in
    omega (arith, length_pair n (omega arith) (omega arith))
