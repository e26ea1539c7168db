use Rattle.std.proofs.Common.{◌||◌, refl}
use Rattle.measures.specs.declared.spans.Lengths.{Lengths}
use Rattle.measures.proofs.SpanFacts.{shows_within, shortest_joins}
use Rattle.measures.proofs.spans.SpanJudge.some.Goals as goal

pub returns-clause-judges : goal.returns-clause-judges
returns-clause-judges c =
    let m = c.args.self.now in
    shows_within m.labels.number m.limit m.limited ◌||◌ (λ (v : Lengths). v.shortest) (λ k. refl) (shortest_joins m.labels.number m.limit)
