use Rattle.std.proofs.Common.{◌≡◌, Err, refl, rules}
use Rattle.history.specs.Runs.{call}
use Rattle.causality.specs.Calls.{handling_event}
use Rattle.causality.proofs.boards.Board.ask_message.Goals as goal

pub returns-in_err-ask_unit : goal.returns-in_err-ask_unit
returns-in_err-ask_unit g c =
    let is : c.from_residual.result ≡ Err c.in_err-ask_unit.field-0.0 = search rules in
    rw is (c.in_err-ask_unit.ensures (call c.args.unit (handling_event c.args.handling c.args.message)) refl)
