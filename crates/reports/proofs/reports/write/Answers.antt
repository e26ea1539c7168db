use Rattle.std.proofs.Common.{rules, ◌≡◌, Err, sym, ap, ◌∙◌}
use Rattle.std.proofs.lemmas.List.{take_rest}
use Rattle.reports.specs.declared.faults.Fault.TheVariants.{Recording}
use Rattle.reports.specs.Reports.{as_fault}
use Rattle.reports.proofs.ReportFacts.{transcript_in-is, report-headed}
use Rattle.reports.proofs.reports.write.Goals as goal

pub returns-in_err-transcribe-clause-text : goal.returns-in_err-transcribe-clause-text
returns-in_err-transcribe-clause-text c =
    let (sound, begins) = c.in_ok-judge.ensures.answer in
    let (m, some, all) = c.in_ok-judge.ensures.judge in
    let is_transcript = transcript_in-is c.args.input.now _ _ _ m some all c.in_ok-judge.from _ begins (take_rest c.args.input.now _) in
    (report-headed c.args.input.now sound c.args.page.now.text c.push_header.new.page.text c.transcribe.new.page.text c.push_header.ensures.text _ is_transcript c.transcribe.result c.transcribe.ensures.tells).0

pub returns-in_err-transcribe-clause-end : goal.returns-in_err-transcribe-clause-end
returns-in_err-transcribe-clause-end c =
    let passed_on : c.from_residual-in_err-transcribe.result ≡ Err (Recording c.in_err-transcribe.field-0.0) = search rules in
    let (sound, begins) = c.in_ok-judge.ensures.answer in
    let (m, some, all) = c.in_ok-judge.ensures.judge in
    let is_transcript = transcript_in-is c.args.input.now _ _ _ m some all c.in_ok-judge.from _ begins (take_rest c.args.input.now _) in
    passed_on ∙ ap as_fault (sym c.in_err-transcribe.was) ∙ (report-headed c.args.input.now sound c.args.page.now.text c.push_header.new.page.text c.transcribe.new.page.text c.push_header.ensures.text _ is_transcript c.transcribe.result c.transcribe.ensures.tells).1

pub returns-clause-text : goal.returns-clause-text
returns-clause-text c =
    let (sound, begins) = c.in_ok-judge.ensures.answer in
    let (m, some, all) = c.in_ok-judge.ensures.judge in
    let is_transcript = transcript_in-is c.args.input.now _ _ _ m some all c.in_ok-judge.from _ begins (take_rest c.args.input.now _) in
    (report-headed c.args.input.now sound c.args.page.now.text c.push_header.new.page.text c.transcribe.new.page.text c.push_header.ensures.text _ is_transcript c.transcribe.result c.transcribe.ensures.tells).0

pub returns-clause-end : goal.returns-clause-end
returns-clause-end c =
    let (sound, begins) = c.in_ok-judge.ensures.answer in
    let (m, some, all) = c.in_ok-judge.ensures.judge in
    let is_transcript = transcript_in-is c.args.input.now _ _ _ m some all c.in_ok-judge.from _ begins (take_rest c.args.input.now _) in
    ap as_fault (sym c.in_ok-transcribe.was) ∙ (report-headed c.args.input.now sound c.args.page.now.text c.push_header.new.page.text c.transcribe.new.page.text c.push_header.ensures.text _ is_transcript c.transcribe.result c.transcribe.ensures.tells).1
