use Rattle.std.proofs.Common.{◌/◌, length, ap, arith, append_assoc}
use Rattle.std.proofs.lemmas.Fmt.{decimal_digit}
use Rattle.reports.proofs.DecimalFacts.{decimal_four, length_four}
use Rattle.reports.proofs.buffers.put_five.Goals as goal

pub put_byte-at-requires : goal.put_byte-at-requires
put_byte-at-requires c =
    let n = c.args.n in
    omega (arith, c.requires, length_four n (omega arith) (omega arith))

pub put_pair-at-requires : goal.put_pair-at-requires
put_pair-at-requires c =
    let n = c.args.n in
    let one = ap length (decimal_digit (n / 10000) (omega arith)) in
    (omega arith, omega (arith, one, length_four n (omega arith) (omega arith)))

pub put_pair-requires : goal.put_pair-requires
put_pair-requires c =
    let n = c.args.n in
    let one = ap length (decimal_digit (n / 10000) (omega arith)) in
    (omega arith, omega (arith, one, length_four n (omega arith) (omega arith)))

pub returns-clause-text : goal.returns-clause-text
returns-clause-text c =
    let n = c.args.n in
    rw (c.put_pair.ensures.text, c.put_pair-at.ensures.text, c.put_byte-at.ensures.text, decimal_four n (omega arith) (omega arith), decimal_digit (n / 10000) (omega arith)) (simp append_assoc)

pub returns-clause-end : goal.returns-clause-end
returns-clause-end c =
    let n = c.args.n in
    let one = ap length (decimal_digit (n / 10000) (omega arith)) in
    omega (arith, one, length_four n (omega arith) (omega arith))
