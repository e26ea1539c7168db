use Rattle.std.proofs.Common.{◌≡◌, Err, refl, rules}
use Rattle.history.specs.declared.calls.Event.TheVariants.{Mark}
use Rattle.history.specs.Runs.{call}
use Rattle.causality.proofs.boards.Board.ask_mark.Goals as goal

pub returns-in_err-ask_unit : goal.returns-in_err-ask_unit
returns-in_err-ask_unit g c =
    let is : c.from_residual.result ≡ Err c.in_err-ask_unit.field-0.0 = search rules in
    rw is (c.in_err-ask_unit.ensures (call c.args.unit (Mark c.args.label)) refl)
