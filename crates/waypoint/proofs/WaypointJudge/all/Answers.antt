use Rattle.std.proofs.Common.{◌&&◌, refl}
use Rattle.waypoint.specs.declared.Passages.{Passages}
use Rattle.waypoint.proofs.PassageFacts.{answers_judge}
use Rattle.waypoint.proofs.WaypointJudge.all.Goals as goal

pub returns-clause-judges : goal.returns-clause-judges
returns-clause-judges c =
    let w = c.args.self.now in
    answers_judge w.labels w.label ◌&&◌ (λ (v : Passages). v.each) refl refl (λ a b. refl)
