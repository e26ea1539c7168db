use Rattle.std.proofs.Common.{◌≡◌, ◌+◌, ◌/◌, ◌++◌, length, take, decimal, ap₂, ◌∙◌, arith, append_assoc}
use Rattle.reports.proofs.DecimalFacts.{decimal_four, length_four}
use Rattle.reports.proofs.buffers.+put_long.Goals as goal
use Rattle.reports.proofs.buffers.+put_long.Goals.{then-high-lt10000, else-high-lt10000}

pub put_short-at-requires : goal.put_short-at-requires
put_short-at-requires t c =
    let n = c.args.n in
    let test = c.if-high-lt10000.true in
    (omega arith, omega (arith, length_four n (omega arith) (omega arith)))

pub put_long-at-requires : goal.put_long-at-requires
put_long-at-requires t c =
    let n = c.args.n in
    let test = c.if-high-lt10000.false in
    (omega arith, (omega arith, omega (arith, length_four n (omega arith) (omega arith))))

pub put_pair-at-requires : goal.put_pair-at-requires
put_pair-at-requires t c =
    let n = c.args.n in
    let high = c.if-high-lt10000 in
    let at : high.at ≡ c.args.at + length (decimal (n / 10000)) =
    elim high.branch [ then-high-lt10000 w ↦ w.at-is ∙ w.put_short-at.ensures.end | else-high-lt10000 w ↦ w.at-is ∙ w.put_long-at.ensures.end ] in
    (omega arith, omega (arith, length_four n (omega arith) (omega arith)))

pub put_pair-requires : goal.put_pair-requires
put_pair-requires t c =
    let n = c.args.n in
    let high = c.if-high-lt10000 in
    let at : high.at ≡ c.args.at + length (decimal (n / 10000)) =
    elim high.branch [ then-high-lt10000 w ↦ w.at-is ∙ w.put_short-at.ensures.end | else-high-lt10000 w ↦ w.at-is ∙ w.put_long-at.ensures.end ] in
    (omega arith, omega (arith, length_four n (omega arith) (omega arith)))

pub returns-clause-text : goal.returns-clause-text
returns-clause-text t c =
    let n = c.args.n in
    let high = c.if-high-lt10000 in
    let text : take high.at high.bytes ≡ take c.args.at c.args.bytes.now ++ decimal (n / 10000) =
    elim high.branch [
      | then-high-lt10000 w ↦ ap₂ take w.at-is w.bytes-is ∙ w.put_short-at.ensures.text
      | else-high-lt10000 w ↦ ap₂ take w.at-is w.bytes-is ∙ w.put_long-at.ensures.text
    ] in
    rw (c.put_pair.ensures.text, c.put_pair-at.ensures.text, text, decimal_four n (omega arith) (omega arith)) (simp append_assoc)

pub returns-clause-end : goal.returns-clause-end
returns-clause-end t c =
    let n = c.args.n in
    let high = c.if-high-lt10000 in
    let at : high.at ≡ c.args.at + length (decimal (n / 10000)) =
    elim high.branch [ then-high-lt10000 w ↦ w.at-is ∙ w.put_short-at.ensures.end | else-high-lt10000 w ↦ w.at-is ∙ w.put_long-at.ensures.end ] in
    omega (arith, length_four n (omega arith) (omega arith))
