use Rattle.measures.proofs.boards.MeasuredPayload.worth.Goals as goal

pub returns : goal.returns
returns g c = λ n r reads. c.mark_value.ensures n r reads c.args._unit
