use Rattle.std.proofs.Common.{ℕ, ◌&&◌}
use Rattle.bitset.specs.Sets.{within}
use Rattle.measures.proofs.AcceptanceFacts.{shows_accepted, within_or, within_one}
use Rattle.measures.proofs.patterns.PatternJudge.all.Goals as goal

pub returns-clause-judges : goal.returns-clause-judges
returns-clause-judges c =
    let m = c.args.self.now in
    let h = m.head in
    shows_accepted h.states.number h.labels.number h.start m.table h.labels.in_range h.start_state m.complete h.finals ◌&&◌ (λ (set : ℕ). within set h.finals) (within_or h.finals) (within_one h.finals)
