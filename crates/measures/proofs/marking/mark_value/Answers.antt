use Rattle.std.proofs.Common.{◌∙◌, rules}
use Rattle.measures.proofs.MarkValueFacts.{flagged_join_read}
use Rattle.measures.proofs.marking.mark_value.Goals as goal

pub returns : goal.returns
returns g c = λ n r reads u.
    let m = g.M.Measure.meaning c.args.m.now in
    let e = c.gather.ensures n reads.below ∙ flagged_join_read m n r c.args.predecessors c.args.values.now reads in
    search (rules, e)
