use Rattle.std.proofs.Common.{◌≡◌, ℕ, take, drop, subst, sym, ◌+◌, ◌-◌, ◌*◌, ◌<◌, false, true, refl, arith}
use Rattle.grid.proofs.Promises.{cell_set}
use Rattle.causality.specs.Payloads.{Reads}
use Rattle.causality.proofs.RoomFacts.{room_row}
use Rattle.causality.proofs.MarkFacts.{flagged_row}
use Rattle.causality.proofs.GridFacts.{filled_then_set, reset_row_is}
use Rattle.causality.proofs.boards.Board.put_mark.Goals as goal

pub returns-clause-writes : goal.returns-clause-writes
returns-clause-writes g c =
    let a = c.args in
    let rules = g.P.Payload.rules a.self.now.payload in
    let n = a.self.now.units in
    let k = a.self.now.messages in
    let u = a.unit in
    let room = c.requires in
    let there : u < n + k = omega arith in
    let size = u * n + n - u * n in
    let whole : size ≡ n = omega arith in
    record {
      clocks = cell_set n u 0 a.clocks.now.cells.now (room_row room.clocks u (omega arith)) u _ _ room.unit refl;
      flags = filled_then_set room.flags false u size there whole false true _ _ room.unit c.take_positions-predecessors.ensures.flags refl;
      values = reset_row_is room.values rules.start u size there whole rules.start c.put_value-value.result _ room.unit c.put_value-value.ensures.row;
      predecessors = flagged_row room.flags (omega (arith, a.self.now.few_units)) u size there whole _ c.take_positions-predecessors.ensures.positions;
      value = λ t reads. c.put_value-value.ensures.value n t
          (subst (λ (w : ℕ). Reads rules.start n t c.take_positions-predecessors.result (take w (drop (u * n) a.values.now.cells.now))) (sym whole) reads);
      loans = search rules;
    }
