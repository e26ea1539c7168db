-- Two recordings with the same accepted calls unit by unit have the same lines of each unit.
-- A unit's lines are those of the answers to its calls, and the answers do not depend on the board's size or on the order among units (SizeFacts).
use Rattle.std.proofs.Common.{◌≡◌, ℕ, ◌==◌, Bool, if◌then◌else◌, List, [], ◌∷◌, ◌++◌, drop, None, sym, refl, ap, ◌∙◌, subst, inl, inr}
use Rattle.std.proofs.Math.Path.{fun_ext}
use Rattle.std.proofs.lemmas.Bool.{cases_eq, eq-eqb, ne_eqb}
use Rattle.history.specs.Board.{History, new_history, contents_after, answer_to, outcomes_from, outcomes, accepted_calls}
use Rattle.history.specs.declared.calls.Answer.{Answer}
use Rattle.history.specs.declared.calls.Answer.TheVariants.{Sent, Received, Marked}
use Rattle.history.specs.Counting.{HowMany}
use Rattle.history.specs.Events.{Logs, at, IsSent, IsReceived}
use Rattle.history.specs.Laws.{answers_of}
use Rattle.history.specs.Rows.{Payload}
use Rattle.history.specs.Runs.{Size, SameByUnit}
use Rattle.history.specs.declared.calls.Call.{Call}
use Rattle.history.proofs.Promises.{how_many_one, by_calls}
use Rattle.history.specs.Limits.{most_marks}
use Rattle.measures.specs.Laws.{MarksValued}
use Rattle.measures.specs.Measures.{Meaning}
use Rattle.measures.specs.Worths.{measured_payload, measured_size}
use Rattle.reports.specs.declared.lines.MarkLine.{MarkLine}
use Rattle.reports.specs.Commands.{calls_in}
use Rattle.reports.specs.Laws.{SameFront, lines_of, ReportsAgree}
use Rattle.reports.specs.Recordings.{Transcript, line, lines, mark_line, transcript}
use Rattle.reports.specs.Reports.{front_fault, recording_at, judge_in, some_in, all_in, transcript_in}
use Rattle.reports.proofs.VerdictFacts.{sets_tell}
use Rattle.reports.proofs.EndFacts.{left_counted}
use Rattle.reports.proofs.ReportFacts.{transcript_in-is}
use Rattle.reports.proofs.SameFrontFacts.{SameJudge, front_judge}
use Rattle.reports.proofs.TranscriptFacts.{reads, reads_ok}
use Rattle.reports.proofs.SizeFacts.{same_answers}
use Rattle.reports.proofs.MarkLineFacts.{transcript_by_cases}

module _ (m : Meaning ℕ) (some all : ℕ → Bool) where
  module _ (u : ℕ) where
    -- the lines of unit u by the answers that it got
    abbrev lines_by : List (Answer ℕ) → List MarkLine
    lines_by [] = []
    lines_by (a ∷ answers) = line m some all u a ++ lines_by answers

    -- one answer more, of any unit
    one_line : (v : ℕ) (a : Answer ℕ) (ls : List MarkLine) (answers : List (Answer ℕ)) → lines_of u ls ≡ lines_by answers
        → lines_of u (line m some all v a ++ ls) ≡ lines_by (if u == v then a ∷ answers else answers)
    one_line v (Sent clock) ls answers others = elim (cases_eq u v) [ inl e ↦ rw (eq-eqb u v e) others | inr ne ↦ rw (ne_eqb u v ne) others ]
    one_line v (Received clock) ls answers others = elim (cases_eq u v) [ inl e ↦ rw (eq-eqb u v e) others | inr ne ↦ rw (ne_eqb u v ne) others ]
    one_line v (Marked x) ls answers others = elim (cases_eq u v) [
      | inl e ↦ rw (eq-eqb u v e) (rw (← e) (ap (λ (l : List MarkLine). mark_line some all u x ∷ l) others))
      | inr ne ↦ rw (ne_eqb u v ne) others
    ]

    module _ (M : Payload ℕ) (z : Size) where
      -- Each unit's lines are those of the answers to its calls before the first refusal.
      lines_answered : (h : History ℕ) (cs : List Call) → lines_of u (lines m some all cs (outcomes_from M z h.contents cs))
          ≡ lines_by (answers_of u (reads M z h.contents cs) (outcomes_from M z h.contents (reads M z h.contents cs)))
      lines_answered = by_calls M z
          (λ h cs. lines_of u (lines m some all cs (outcomes_from M z h.contents cs)) ≡ lines_by (answers_of u (reads M z h.contents cs) (outcomes_from M z h.contents (reads M z h.contents cs))))
          (λ h. refl)
          (λ h c cs e ih. rw (e, e) (one_line c.unit (answer_to M z c.unit c.event (h.contents.rows c.unit) ((contents_after M z h.contents c.unit c.event).rows c.unit)) _ _ ih))
          (λ h c cs x e same. rw e refl)

  -- The calls of a transcript are all accepted by some board, and its lines are those of the answers to them.
  abbrev OnBoard : Transcript → Type 0
  OnBoard t =
      (n k : ℕ) × (accepted_calls (measured_payload m n) (measured_size m n k most_marks) t.calls ≡ t.calls)
      × ((u : ℕ) → lines_of u t.lines ≡ lines_by u (answers_of u t.calls (outcomes (measured_payload m n) (measured_size m n k most_marks) t.calls)))

  -- So it is of each transcript.
  on_board : (place : ℕ) (bytes : List ℕ) → OnBoard (transcript m some all place bytes)
  on_board = transcript_by_cases m some all OnBoard (λ reason place. (0, 0, refl, λ u. refl)) (λ n k place bytes. (
    n,
    k,
    reads_ok (measured_payload m n) (measured_size m n k most_marks) (new_history (measured_payload m n)) (calls_in bytes),
    λ u. lines_answered u (measured_payload m n) (measured_size m n k most_marks) (new_history (measured_payload m n)) (calls_in bytes),
  ))

  -- Transcripts of calls that are the same unit by unit have the same lines of each unit.
  same_lines : MarksValued m → (s t : Transcript) → OnBoard s → OnBoard t → SameByUnit s.calls t.calls → (u : ℕ) → lines_of u s.lines ≡ lines_of u t.lines
  same_lines valued s t (n, k, p, f) (n', k', q, g) same u =
      f u ∙ ap (lines_by u) (same_answers m valued most_marks n k n' k' s.calls t.calls p q same u) ∙ sym (g u)

-- What an input comes to is what its recording does under the judge of another, if that is the same.
judged_by : (b d : List ℕ) → SameJudge b d → transcript (judge_in d) (some_in d) (all_in d) (recording_at b) (drop (recording_at b) b) ≡ transcript_in b
judged_by b d same = transcript_in-is b _ _ _ (sym same.meaning) (sym same.some) (sym same.all) (recording_at b) _ refl refl

-- Reports on recordings with the same pattern and relabelling and the same accepted calls unit by unit agree, whatever the sizes of their boards.
pub reports_agree : (b d : List ℕ) → front_fault d ≡ None → SameFront b d → SameByUnit (transcript_in b).calls (transcript_in d).calls → ReportsAgree b d
reports_agree b d sound front same = record {
  lines = same_lines (judge_in d) (some_in d) (all_in d) (λ n k limit cs u i l e. (sets_tell d sound n k limit cs u i l e).0) (transcript_in b) (transcript_in d)
      (subst (OnBoard (judge_in d) (some_in d) (all_in d)) (judged_by b d (front_judge b d front))
      (on_board (judge_in d) (some_in d) (all_in d) (recording_at b) (drop (recording_at b) b)))
      (on_board (judge_in d) (some_in d) (all_in d) (recording_at d) (drop (recording_at d) d)) same;
  left = λ x y p q. how_many_one x y
      (subst (λ (logs : Logs). HowMany (λ p. IsSent (at logs) p × (IsReceived (at logs) p → ⊥)) x) (fun_ext same) (left_counted b x p)) (left_counted d y q);
}
