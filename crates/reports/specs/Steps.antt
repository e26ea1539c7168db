-- What the contracts of the functions that read a recording and write its lines speak of.
use Rattle.std.specs.Prelude.{◌≡◌, ℕ, Bool, List, ◌++◌, Ok, Err, Result, Some, None, Option}
use Rattle.history.specs.declared.calls.Call.{Call}
use Rattle.history.specs.declared.refusals.Refusal.{Refusal}
use Rattle.measures.specs.declared.judges.JudgedValue.{JudgedValue}
use Rattle.history.specs.Board.{Contents}
use Rattle.history.specs.declared.calls.Answer.{Answer}
use Rattle.history.specs.declared.calls.Answer.TheVariants.{Sent, Received, Marked}
use Rattle.causality.specs.Boards.{Memory, Obeys, Setup, Shows, left_among}
use Rattle.measures.specs.Measures.{Meaning}
use Rattle.reports.specs.declared.commands.Command.TheVariants.{End}
use Rattle.reports.specs.declared.faults.Reason.{Reason}
use Rattle.reports.specs.declared.faults.Reason.TheVariants.{Refused}
use Rattle.reports.specs.declared.faults.RecordingFault.{RecordingFault}
use Rattle.reports.specs.declared.lines.MarkLine.{MarkLine}
use Rattle.reports.specs.Faults.{fault_at}
use Rattle.reports.specs.Lines.{mark_lines}
use Rattle.reports.specs.Recordings.{Transcript, end_after_calls, mark_line, transcript_on}

-- what was read or done, or why the recording breaks off at a byte of the input
abbrev pub result_with_place : {T : Type 0} → Result T Reason → ℕ → Result T RecordingFault
result_with_place (Ok x) place = Ok x
result_with_place (Err reason) place = Err (fault_at reason place)

-- what a board answers, or its refusal as the reason why a recording breaks off
abbrev pub result_with_reason : {T : Type 0} → Result T Refusal → Result T Reason
result_with_reason (Ok x) = Ok x
result_with_reason (Err e) = Err (Refused e)

-- The line of the answer to a call of unit u, if it has one, or why the recording breaks off there.
abbrev pub answer_line : (ℕ → Bool) → (ℕ → Bool) → ℕ → Result (Answer ℕ) Refusal
    → Result (Option MarkLine) Reason
answer_line some all u (Ok (Sent clock)) = Ok None
answer_line some all u (Ok (Received clock)) = Ok None
answer_line some all u (Ok (Marked m)) = Ok (Some (mark_line some all u m))
answer_line some all u (Err e) = Err (Refused e)

-- the line of an answer with the judge's verdict beside the value of a mark, if it has one
abbrev pub judged_line : ℕ → Answer (JudgedValue ℕ) → Option MarkLine
judged_line u (Sent clock) = None
judged_line u (Received clock) = None
judged_line u (Marked m) =
    Some (record {
      unit = u;
      clock = m.clock;
      predecessors = m.predecessors;
      states = m.value.value;
      some = m.value.verdict.some;
      all = m.value.verdict.all;
    })

-- A call was answered by the rules, on a board of that setup under a judge with these two answers, and the result is the line of the answer.
abbrev pub AnswersCall : (some all : ℕ → Bool) → Setup ℕ → Call → Memory ℕ → Memory ℕ
    → Result (Option MarkLine) Reason → Type 0
AnswersCall some all b c old new result =
    (x : Result (Answer ℕ) Refusal) × Obeys b c old new x × (result ≡ answer_line some all c.unit x)

-- The lines of t are appended to the old text, and the result is t's end.
abbrev pub Wrote : List ℕ → List ℕ → Transcript → Result ℕ RecordingFault → Type 0
Wrote old new t result = (new ≡ old ++ mark_lines t.lines) × (result ≡ t.end)

-- A board of n units and k messages, under a judge that is known by three functions, was handed the calls that the bytes begin with, which stand at
-- a byte of the input: of all contents that its memory showed, the transcript was written.
abbrev pub WroteOn : {J : Type 0} → (J → Meaning ℕ) → (J → ℕ → Bool) → (J → ℕ → Bool) → J → ℕ → ℕ → Memory ℕ
    → ℕ → List ℕ → List ℕ → List ℕ → Result ℕ RecordingFault → Type 0
WroteOn meaning some all judge n k memory from bytes old new result =
    (s : Contents ℕ) → Shows (meaning judge).start n k memory s
    → Wrote old new (transcript_on (meaning judge) (some judge) (all judge) n k s from bytes) result

-- Of all contents that the memory of such a board shows, a recording ends so whose end stands at a byte of the input, with these bytes after it.
abbrev pub EndedOn : {J : Type 0} → (J → Meaning ℕ) → J → ℕ → ℕ → Memory ℕ
    → ℕ → List ℕ → Result ℕ RecordingFault → Type 0
EndedOn meaning judge n k memory place after result =
    (s : Contents ℕ) → Shows (meaning judge).start n k memory s
    → result ≡ end_after_calls (left_among s.posts k) place (Ok (End, after))
