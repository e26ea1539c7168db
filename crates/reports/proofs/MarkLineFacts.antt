-- The lines of the marks of a recording, where nothing is wrong with its front.
-- The calls read are all accepted, so they are a run, and their lines are one for each mark. A list of calls is cut at a mark: the lines before it
-- are as many as the marks before it, and what the mark's own line says is the reply that the history has to the mark that ends the first part.
use Rattle.std.proofs.Common.{◌≡◌, ℕ, ◌+◌, Bool, List, [], ◌∷◌, ◌++◌, length, drop, Some, None, refl, sym, ap, ◌∙◌, subst, inl, inr}
use Rattle.std.specs.List.{slice_get}
use Rattle.history.specs.Events.{Events}
use Rattle.history.specs.declared.calls.Event.TheVariants.{Mark}
use Rattle.history.specs.Rows.{Payload}
use Rattle.history.specs.Runs.{Size, Run, by_unit, call, events_in}
use Rattle.history.specs.declared.calls.Call.{Call}
use Rattle.history.specs.Board.{History, mark_answer, new_history, new_contents, refusal, run, history_after as next}
use Rattle.history.proofs.Promises.{accepts_runs}
use Rattle.history.specs.Limits.{most_marks}
use Rattle.measures.specs.Measures.{Meaning}
use Rattle.measures.specs.Worths.{measured_payload, measured_size}
use Rattle.reports.specs.declared.faults.Reason.{Reason}
use Rattle.reports.specs.declared.lines.MarkLine.{MarkLine}
use Rattle.reports.specs.Commands.{making_size, calls_in}
use Rattle.reports.specs.Laws.{Tells, marks_among, size_in}
use Rattle.reports.specs.Recordings.{Transcript, line, empty_transcript, transcript_on, transcript}
use Rattle.reports.specs.Reports.{front_fault, judge_in, some_in, all_in, recording_at, transcript_in}
use Rattle.reports.proofs.VerdictFacts.{sets_tell}
use Rattle.reports.proofs.LastMarkFacts.{seam, with_mark, events_are, mark_there, answer_is}
use Rattle.reports.proofs.TranscriptFacts.{reads, AllTaken, reads_taken, reads_ok, reads_lines, transcript_cases}
use Rattle.reports.proofs.LineFacts.{taken_parts, line_at, lines_at, lines_more, lines_append, lines_count}

-- What is true of a transcript of nothing, and of those on each new board, is true of every recording's.
pub transcript_by_cases : (m : Meaning ℕ) (some all : ℕ → Bool) (P : Transcript → Type 0) → ((reason : Reason) (place : ℕ) → P (empty_transcript m some all reason place))
    → ((n k place : ℕ) (bytes : List ℕ) → P (transcript_on m some all n k (new_contents (measured_payload m n)) place bytes)) → (place : ℕ) (bytes : List ℕ) → P (transcript m some all place bytes)
transcript_by_cases m some all P none board place bytes = elim (transcript_cases m some all place bytes) [
  | inl (reason, e) ↦ subst P (sym e) (none reason place)
  | inr (n, k, rest, _, _, e) ↦ subst P (sym e) (board n k (place + making_size) rest)
]

module _ (b : List ℕ) (sound : front_fault b ≡ None) (n k : ℕ) where
  abbrev M : Payload ℕ
  M = measured_payload (judge_in b) n

  abbrev z : Size
  z = measured_size (judge_in b) n k most_marks

  abbrev new : History ℕ
  new = new_history M

  -- the lines of calls from a history on
  abbrev lines_from : History ℕ → List Call → List MarkLine
  lines_from h cs = lines_at (judge_in b) (some_in b) (all_in b) M z h cs

  -- A mark after accepted calls has a line, which tells of the longest flows that end there.
  mark_line : (before : List Call) (u l : ℕ) → AllTaken M z new before → refusal M z (run M z before).contents u (Mark l) ≡ None
      → (line : MarkLine) × (line_at (judge_in b) (some_in b) (all_in b) M z (run M z before) (call u (Mark l)) ≡ line ∷ []) × Tells b (events_in (with_mark before u l)) u (length (by_unit before u)) line
  mark_line before u l taken allowed =
      let (v, says) = sets_tell b sound n k most_marks (with_mark before u l) u (length (by_unit before u)) l (mark_there M z before u l taken allowed) in
      let a = v.answered in
      let own : MarkLine = record { unit = u; clock = a.clock; predecessors = a.predecessors; states = a.value; some = some_in b a.value; all = all_in b a.value } in (
        own,
        sym (ap (line (judge_in b) (some_in b) (all_in b) u) (answer_is M z before u l taken allowed (record { answer = mark_answer a.clock a.predecessors a.value; stamp = a.stamp }) a.reply_is)),
        subst (λ (ev : Events). Tells b ev u (length (by_unit before u)) own) (events_are M z before u l taken allowed)
            (record { unit_is = refl; clock_is = a.clock_is; predecessors_are = a.predecessors_are; states_are = says.0; verdict = says.1 }),
      )

  -- The calls before the first refusal are a run.
  run_on : (cs : List Call) → Run z (reads M z (new_contents M) cs)
  run_on cs = subst (Run z) (reads_ok M z new cs) (accepts_runs M z (reads M z (new_contents M) cs)).accepted_run

  -- There is a line for each mark among them.
  lines_on : (cs : List Call) → length (lines_from new cs) ≡ marks_among (reads M z (new_contents M) cs)
  lines_on cs =
      ap length (reads_lines (judge_in b) (some_in b) (all_in b) M z new cs)
      ∙ lines_count (judge_in b) (some_in b) (all_in b) M z new (reads M z (new_contents M) cs) (reads_taken M z new cs)

  -- And it tells of the longest flows of the calls up to that mark.
  line_on : (cs before after : List Call) (u l : ℕ) → reads M z (new_contents M) cs ≡ before ++ call u (Mark l) ∷ after
      → (line : MarkLine) × (slice_get (lines_from new cs) (marks_among before) ≡ Some line) × Tells b (events_in (with_mark before u l)) u (length (by_unit before u)) line
  line_on cs before after u l e =
      let (taken, rest) = taken_parts M z new before (call u (Mark l) ∷ after) (subst (AllTaken M z new) e (reads_taken M z new cs)) in
      let (own, is, tells) = mark_line before u l taken rest.0 in
      let later = lines_from (next M z (run M z before) (call u (Mark l))) after in (
        own,
        ap (λ (ls : List MarkLine). slice_get ls (marks_among before))
            (reads_lines (judge_in b) (some_in b) (all_in b) M z new cs
            ∙ ap (lines_from new) e
            ∙ lines_append (judge_in b) (some_in b) (all_in b) M z new before (call u (Mark l) ∷ after) taken
            ∙ ap (λ (ls : List MarkLine). lines_from new before ++ ls)
            (lines_more (judge_in b) (some_in b) (all_in b) M z (run M z before) (call u (Mark l)) after rest.0 ∙ ap (λ (ls : List MarkLine). ls ++ later) is))
            ∙ ap (slice_get (lines_from new before ++ own ∷ later)) (sym (lines_count (judge_in b) (some_in b) (all_in b) M z new before taken))
            ∙ seam (lines_from new before) own later,
        tells,
      )

module _ (b : List ℕ) (sound : front_fault b ≡ None) where
  -- The calls read of a recording are what a real run could do.
  pub transcript_run : Run (size_in b) (transcript_in b).calls
  transcript_run =
      transcript_by_cases (judge_in b) (some_in b) (all_in b) (λ t. Run (measured_size (judge_in b) t.units t.messages most_marks) t.calls) (λ reason place. tt)
      (λ n k place bytes. run_on b sound n k (calls_in bytes)) (recording_at b) (drop (recording_at b) b)

  -- There is a line for each mark read, and no other.
  pub transcript_lines : length (transcript_in b).lines ≡ marks_among (transcript_in b).calls
  transcript_lines =
      transcript_by_cases (judge_in b) (some_in b) (all_in b) (λ t. length t.lines ≡ marks_among t.calls) (λ reason place. refl)
      (λ n k place bytes. lines_on b sound n k (calls_in bytes)) (recording_at b) (drop (recording_at b) b)

  -- And it tells of the longest flows of the calls read up to that mark.
  pub transcript_line : (before after : List Call) (u l : ℕ) → (transcript_in b).calls ≡ before ++ call u (Mark l) ∷ after
      → (line : MarkLine) × (slice_get (transcript_in b).lines (marks_among before) ≡ Some line) × Tells b (events_in (before ++ call u (Mark l) ∷ [])) u (length (by_unit before u)) line
  transcript_line =
      transcript_by_cases (judge_in b) (some_in b) (all_in b)
      (λ t. (before after : List Call) (u l : ℕ) → t.calls ≡ before ++ call u (Mark l) ∷ after
      → (line : MarkLine) × (slice_get t.lines (marks_among before) ≡ Some line) × Tells b (events_in (before ++ call u (Mark l) ∷ [])) u (length (by_unit before u)) line)
      (λ reason place before after u l e. absurd (none before u l after e))
      (λ n k place bytes. line_on b sound n k (calls_in bytes)) (recording_at b) (drop (recording_at b) b)
    where
      none : (before : List Call) (u l : ℕ) (after : List Call) → [] ≡ before ++ call u (Mark l) ∷ after → ⊥
      none [] u l after e = cc
      none (c ∷ before) u l after e = cc
