use Rattle.measures.proofs.JudgeFacts.{marks_judged}
use Rattle.measures.proofs.judges.verdicts.Goals as goal

pub returns-clause-flows : goal.returns-clause-flows
returns-clause-flows g c =
    let j = c.args.j.now in
    marks_judged (g.J.Measure.meaning j) (g.J.Measure.admits j) (g.met.J.Measure.lawful j) (g.J.Judge.some_of j) (g.J.Judge.all_of j) (g.J.Judge.good j)
    c.some-some.ensures.judges c.all-all.ensures.judges
