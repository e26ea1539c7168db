use Rattle.std.proofs.Common.{subst}
use Rattle.measures.specs.Boards.{MarksGood}
use Rattle.measures.proofs.BoardLaw.{marks_good}
use Rattle.measures.proofs.boards.mark_judged.Goals as goal

pub returns-clause-good : goal.returns-clause-good
returns-clause-good g c =
    let j = c.payload.result.now.measure in
    subst (λ p. MarksGood (g.J.Measure.meaning p.measure) (g.J.Judge.some_of p.measure) (g.J.Judge.all_of p.measure) (g.J.Judge.good p.measure)) c.payload.ensures
    (marks_good (g.J.Measure.meaning j) (g.J.Judge.some_of j) (g.J.Judge.all_of j) (g.J.Judge.good j) c.judged_mark.ensures.flows)
