-- The law of reports.
use Rattle.reports.specs.Laws.{LawOfReports}
use Rattle.reports.proofs.AgreementFacts.{reports_agree}
use Rattle.reports.proofs.PartFacts.{part}
use Rattle.reports.proofs.BreakFacts.{sized_as_made, read_to, broke}
use Rattle.reports.proofs.EndFacts.{all_read, ended, left_counted}
use Rattle.reports.proofs.RefusalFacts.{refused}
use Rattle.reports.proofs.MarkLineFacts.{transcript_run, transcript_lines, transcript_line}

pub law_of_reports : LawOfReports
law_of_reports = record {
  true_of_each = λ b sound. record {
    sized = sized_as_made b;
    run = transcript_run b sound;
    refused = refused b;
    all_read = all_read b;
    ended = ended b;
    lines_counted = transcript_lines b sound;
    each_line = transcript_line b sound;
    left_counted = left_counted b;
    part = part b sound;
    read_to = read_to b;
    broke = broke b;
  };
  agree = λ b d _. reports_agree b d;
}
