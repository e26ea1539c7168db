-- A recording that breaks off, and the part of the input before the break.
-- Every input that agrees with it up to the break comes to the same calls and lines, and then to what its own bytes come to. The part before the break
-- is such an input, which has no further bytes.
use Rattle.std.proofs.Common.{◌≡◌, ℕ, ◌≤◌, List, [], ◌++◌, length, drop, take, None, Err, true, nat_le, refl, sym, ap, ◌∙◌, arith, length-take, append-nil}
use Rattle.std.proofs.lemmas.Bool.{le-leb, leb-true}
use Rattle.std.proofs.lemmas.List.{drop-drop, drop-take, length-drop}
use Rattle.text.specs.Inputs.{most_bytes}
use Rattle.reports.specs.declared.faults.RecordingFault.{RecordingFault}
use Rattle.reports.specs.Recordings.{Transcript, transcript}
use Rattle.reports.specs.Reports.{recording_at, front_fault, judge_in, some_in, all_in, transcript_in}
use Rattle.reports.specs.Laws.{SameFront}
use Rattle.reports.proofs.FrontFacts.{front_parts}
use Rattle.reports.proofs.PrefixFacts.{AgreeTo, agree_part, same_bytes}
use Rattle.reports.proofs.ReportFacts.{transcript_in-is}
use Rattle.reports.proofs.SameFrontFacts.{front_within, same_recording_at, same_judge, same_front, front_kept}
use Rattle.history.specs.declared.calls.Call.{Call}
use Rattle.reports.specs.declared.lines.MarkLine.{MarkLine}
use Rattle.reports.proofs.CallFacts.{transcript_with}
use Rattle.reports.proofs.CutFacts.{Cut}
use Rattle.reports.proofs.TranscriptCutFacts.{transcript_cut}

-- An input that agrees with another past its front comes to what its own recording does under the other's judge.
pub transcript_of_agreeing : (b d : List ℕ) (p : ℕ) → AgreeTo p b d → recording_at b ≤ p
    → transcript_in d ≡ transcript (judge_in b) (some_in b) (all_in b) (recording_at b) (drop (recording_at b) d)
transcript_of_agreeing b d p agree reaches =
    let judge = same_judge b d p agree reaches in
    sym (transcript_in-is d _ _ _ judge.meaning judge.some judge.all (recording_at b) _ (same_recording_at b d p agree reaches) refl)

module _ (b : List ℕ) (accepted : front_fault b ≡ None) (f : RecordingFault) (breaks : (transcript_in b).end ≡ Err f) where
  -- where it breaks off, among its bytes or at their end
  pub cut : Cut (transcript (judge_in b) (some_in b) (all_in b) (recording_at b)) (recording_at b) (drop (recording_at b) b) f
  cut = transcript_cut (judge_in b) (some_in b) (all_in b) (recording_at b) (drop (recording_at b) b) f breaks

  reaches : recording_at b ≤ f.place
  reaches = let at = cut.at in omega arith

  lies_within : f.place ≤ length b
  lies_within = let c = cut in let front = front_within b accepted in omega (arith, length-drop (recording_at b) b)

  -- Where a recording breaks off, every input that agrees with it up to the break comes to the same calls and lines, and then to what its further
  -- bytes come to.
  pub continues : (d : List ℕ) → AgreeTo f.place b d → transcript_in d ≡ transcript_with (transcript_in b).calls (transcript_in b).lines (cut.further (drop f.place d))
  continues d agree =
      let at = cut.at in
      transcript_of_agreeing b d f.place agree reaches
      ∙ cut.continues (drop (recording_at b) d) (record { bytes = sym (same_bytes f.place b d agree (recording_at b) cut.size (omega arith)) })
      ∙ ap (λ (l : List ℕ). transcript_with (transcript_in b).calls (transcript_in b).lines (cut.further l))
      (drop-drop cut.size (recording_at b) d ∙ ap (λ (n : ℕ). drop n d) (omega arith))

  -- its part before the break
  abbrev part_before : List ℕ
  part_before = take f.place b

  continued_part : transcript_in part_before ≡ transcript_with (transcript_in b).calls (transcript_in b).lines (cut.further [])
  continued_part =
      let none : drop f.place part_before ≡ [] = ap (λ (n : ℕ). drop f.place (take n b)) (omega arith) ∙ drop-take f.place 0 b in
      continues part_before (agree_part f.place b) ∙ ap (λ (l : List ℕ). transcript_with (transcript_in b).calls (transcript_in b).lines (cut.further l)) none

  short : nat_le (length part_before) most_bytes ≡ true
  short =
      let within_limit = leb-true (length b) most_bytes (front_parts b accepted).0 in
      le-leb (length part_before) most_bytes (omega (arith, length-take f.place b))

  -- Where a recording breaks off, its lines are exactly those of its part before the break.
  pub part : (front_fault part_before ≡ None) × SameFront b part_before × ((transcript_in part_before).calls ≡ (transcript_in b).calls)
      × ((transcript_in part_before).lines ≡ (transcript_in b).lines)
  part = (
    front_kept b part_before f.place (agree_part f.place b) reaches lies_within short accepted,
    same_front b part_before f.place (agree_part f.place b) reaches,
    ap (λ (t : Transcript). t.calls) continued_part ∙ ap (λ (l : List Call). (transcript_in b).calls ++ l) cut.no_more.0 ∙ append-nil (transcript_in b).calls,
    ap (λ (t : Transcript). t.lines) continued_part ∙ ap (λ (l : List MarkLine). (transcript_in b).lines ++ l) cut.no_more.1 ∙ append-nil (transcript_in b).lines,
  )
