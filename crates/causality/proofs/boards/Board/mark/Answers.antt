use Rattle.std.proofs.Common.{ℕ, refl, ap, ◌∙◌, ◌+◌}
use Rattle.causality.specs.Boards.{memory}
use Rattle.causality.proofs.MarkFacts.{noted}
use Rattle.causality.proofs.boards.Board.mark.Goals as goal

pub returns : goal.returns
returns g c =
    let a = c.args in
    let rules = g.P.Payload.rules a.self.now.payload in
    let (may, is) = c.in_ok-own.ensures in
    let w = c.put_mark.ensures.writes in
    let counted = c.put_mark.ensures.clock ∙ ap (λ (x : ℕ). x + 1) is in
    record {
      follows = noted rules a.self.now.units a.self.now.messages a.unit a.label may.label
          (memory a.clocks.now a.flags.now a.values.now a.posts.now)
          (memory c.put_mark.new.clocks c.put_mark.new.flags c.put_mark.new.values a.posts.now)
          may.ready may.below _ _ _
          w.clocks w.flags w.values refl counted w.predecessors w.value;
      loans = record { clocks = w.loans.0; flags = w.loans.1; values = w.loans.2 };
    }
