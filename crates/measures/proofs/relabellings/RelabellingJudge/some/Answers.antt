use Rattle.measures.proofs.TranslationFacts.{translated_judges}
use Rattle.measures.proofs.relabellings.RelabellingJudge.some.Goals as goal

pub returns-clause-judges : goal.returns-clause-judges
returns-clause-judges g c =
    let m = c.args.self.now in
    translated_judges m.table.entries m.table.count.number (g.M.Measure.meaning m.inner) (g.met.M.Measure.lawful m.inner).label_range.0 c.some.ensures.judges
