use Rattle.std.proofs.Common.{◌+◌, false, refl, arith}
use Rattle.causality.specs.Boards.{memory}
use Rattle.causality.proofs.SendFacts.{sent}
use Rattle.causality.proofs.GridFacts.{copied}
use Rattle.causality.proofs.boards.Board.send.Goals as goal

pub returns : goal.returns
returns g c =
    let a = c.args in
    let rules = g.P.Payload.rules a.self.now.payload in
    let n = a.self.now.units in
    let k = a.self.now.messages in
    let old = memory a.clocks.now a.flags.now a.values.now a.posts.now in
    let (r, m, was) = c.in_ok-sent.ensures in
    record {
      follows = sent rules n k a.unit a.message old _ r m _ _ was
          (copied r.clocks 0 _ a.unit (n + a.message) (omega (arith, r.unit)) (omega arith) c.copy_row.ensures.cells)
          (copied r.flags false _ a.unit (n + a.message) (omega (arith, r.unit)) (omega arith) c.copy_row-2.ensures.cells)
          (copied r.values rules.start _ a.unit (n + a.message) (omega (arith, r.unit)) (omega arith) c.copy_row-3.ensures.cells)
          refl
          (assumption c.own_clock.ensures);
      loans = search rules;
    }
