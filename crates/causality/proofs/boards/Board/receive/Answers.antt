use Rattle.std.proofs.Common.{◌+◌, false, refl, arith}
use Rattle.causality.specs.Boards.{memory}
use Rattle.causality.proofs.ReceiptFacts.{received, rows}
use Rattle.causality.proofs.GridFacts.{row_merged, rows_within}
use Rattle.causality.proofs.boards.Board.receive.Goals as goal

pub merge_rows-requires-clause-clocks : goal.merge_rows-requires-clause-clocks
merge_rows-requires-clause-clocks g c =
    let a = c.args in
    let (r, m, was) = c.in_ok-received.ensures in
    rows_within r.clocks (a.self.now.units + a.message) a.unit (omega arith) (omega (arith, r.unit))

pub merge_rows-requires-clause-flags : goal.merge_rows-requires-clause-flags
merge_rows-requires-clause-flags g c =
    let a = c.args in
    let (r, m, was) = c.in_ok-received.ensures in
    rows_within r.flags (a.self.now.units + a.message) a.unit (omega arith) (omega (arith, r.unit))

pub merge_rows-requires-clause-values : goal.merge_rows-requires-clause-values
merge_rows-requires-clause-values g c =
    let a = c.args in
    let (r, m, was) = c.in_ok-received.ensures in
    rows_within r.values (a.self.now.units + a.message) a.unit (omega arith) (omega (arith, r.unit))

pub returns : goal.returns
returns g c =
    let a = c.args in
    let rules = g.P.Payload.rules a.self.now.payload in
    let n = a.self.now.units in
    let k = a.self.now.messages in
    let old = memory a.clocks.now a.flags.now a.values.now a.posts.now in
    let (r, m, was) = c.in_ok-received.ensures in
    let cs = a.clocks.now.cells.now in
    let fs = a.flags.now.cells.now in
    let vs = a.values.now.cells.now in
    let w = c.merge_rows.ensures in
    let t = rows n a.unit a.message in
    let start = c.start.result in
    record {
      follows = received rules n k a.unit a.message old _ r m _ _ was
          (row_merged r.clocks 0 rules.start start c.start.ensures cs fs vs t (λ x. x.clock) _ refl (omega (arith, r.unit)) w.clocks)
          (row_merged r.flags false rules.start start c.start.ensures cs fs vs t (λ x. x.flag) _ refl (omega (arith, r.unit)) w.flags)
          (row_merged r.values rules.start rules.start start c.start.ensures cs fs vs t (λ x. x.value) _ refl (omega (arith, r.unit)) w.values)
          refl
          (assumption c.own_clock.ensures);
      loans = search rules;
    }
