use Rattle.std.proofs.Common.{rules}
use Rattle.bitset.proofs.Promises.{less_without}
use Rattle.measures.proofs.MemberFacts.{so_far_more, so_far_all}
use Rattle.measures.proofs.marking.gather.Goals as goal

pub loop-j-smaller : goal.loop-j-smaller
loop-j-smaller g c = less_without c.loop-j.rest c.in-Some.others c.in-Some.j c.in-Some.ensures.0.0 c.in-Some.ensures.1

pub loop-j-preserved : goal.loop-j-preserved
loop-j-preserved g c =
    so_far_more (g.M.Measure.meaning c.args.m.now) c.args.set c.args.values.now c.loop-j.rest c.loop-j.all c.loop-j.invariant c.in-Some.j c.in-Some.others c.with_joined.result c.in-Some.ensures.0.0 c.in-Some.ensures.0.1 c.in-Some.ensures.1 (search rules)

pub returns : goal.returns
returns g c = λ n small. so_far_all (g.M.Measure.meaning c.args.m.now) c.args.set c.args.values.now c.loop-j.rest c.loop-j.all c.loop-j.invariant c.in_default.ensures n small
