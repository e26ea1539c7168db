use Rattle.std.proofs.Common.{ℕ, ◌||◌}
use Rattle.bitset.specs.Sets.{meets}
use Rattle.measures.proofs.AcceptanceFacts.{shows_accepted, meets_or, meets_one}
use Rattle.measures.proofs.patterns.PatternJudge.some.Goals as goal

pub returns-clause-judges : goal.returns-clause-judges
returns-clause-judges c =
    let m = c.args.self.now in
    let h = m.head in
    shows_accepted h.states.number h.labels.number h.start m.table h.labels.in_range h.start_state m.complete h.finals ◌||◌ (λ (set : ℕ). meets set h.finals) (meets_or h.finals) (meets_one h.finals)
