use Rattle.std.proofs.Common.{rules}
use Rattle.std.proofs.lemmas.Result.{on_ok_weaker}
use Rattle.reports.specs.Reports.{report_on}
use Rattle.reports.proofs.TooLongFacts.{report_on-too_long}
use Rattle.text.proofs.Promises.{answered}
use Rattle.reports.proofs.reports.answer.Goals as goal

pub returns : goal.returns
returns g c =
    on_ok_weaker c.write_all.result
    (answered report_on _ report_on-too_long (g.R.Read.remaining c.args.reader) _ _ c.in_ok-input.input.items _ (search rules) (search rules))
    c.write_all.ensures.bytes
