use Rattle.std.proofs.Common.{refl, append_assoc}
use Rattle.reports.proofs.DecimalFacts.{DECIMAL_PAIRS_at}
use Rattle.reports.proofs.buffers.put_pair.Goals as goal

pub returns-clause-text : goal.returns-clause-text
returns-clause-text c =
    let p = DECIMAL_PAIRS_at c.args.pair c.requires.0 in
    rw (c.put_byte.ensures.text, c.put_byte-at.ensures.text, append_assoc, p.0, p.1) refl
