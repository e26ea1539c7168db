-- What a recording comes to, under a judge of sets of states.
use Rattle.std.specs.Prelude.{ℕ, ◌+◌, ◌*◌, Bool, true, List, [], ◌∷◌, ◌++◌, length, drop, Ok, Err, Result, Some, None, Option}
use Rattle.history.specs.declared.refusals.Refusal.{Refusal}
use Rattle.history.specs.Board.{Contents, new_contents, outcomes_from, contents_from}
use Rattle.history.specs.declared.calls.Answer.{Answer}
use Rattle.history.specs.declared.calls.Answer.TheVariants.{Sent, Received, Marked as marked}
use Rattle.history.specs.declared.calls.Marked.{Marked}
use Rattle.history.specs.declared.calls.Call.{Call}
use Rattle.history.specs.Limits.{most_marks}
use Rattle.causality.specs.Boards.{make_refusal, left_among}
use Rattle.measures.specs.Measures.{Meaning}
use Rattle.measures.specs.Worths.{measured_payload, measured_size}
use Rattle.reports.specs.declared.commands.Command.{Command}
use Rattle.reports.specs.declared.commands.Command.TheVariants as commands
use Rattle.reports.specs.declared.faults.Reason.{Reason}
use Rattle.reports.specs.declared.faults.Reason.TheVariants.{NoBoard, SecondBoard, BytesAfterEnd, Refused}
use Rattle.reports.specs.declared.faults.RecordingFault.{RecordingFault}
use Rattle.reports.specs.declared.lines.MarkLine.{MarkLine}
use Rattle.reports.specs.Commands.{call_size, making_size, first_command, calls_in}
use Rattle.reports.specs.Faults.{fault_at}

-- What a recording comes to: the numbers of units and of messages of the board that it makes, or 0 where it makes none; the calls that were
-- read, up to its end or to where it breaks off; the lines of their marks; and the number of messages that are left on their way, or why and
-- where it breaks off.
pub record Transcript : Type 0 where
  pub units : ℕ
  pub messages : ℕ
  pub calls : List Call
  pub lines : List MarkLine
  pub end : Result ℕ RecordingFault

-- How the bytes after the calls close a recording, with so many messages on their way: they are the end alone, or they break it off. No call begins
-- them, so the last case does not arise.
abbrev pub end_after_calls : ℕ → ℕ → Result (Command × List ℕ) Reason → Result ℕ RecordingFault
end_after_calls left place (Err reason) = Err (fault_at reason place)
end_after_calls left place (Ok (commands.End, [])) = Ok left
end_after_calls left place (Ok (commands.End, x ∷ rest)) = Err (fault_at BytesAfterEnd (place + 1))
end_after_calls left place (Ok (commands.Make n k, rest)) = Err (fault_at SecondBoard place)
end_after_calls left place (Ok (commands.Call c, rest)) = Err (fault_at SecondBoard place)

-- Where the first refusal among the answers to calls of three bytes each, the first at a byte of the input, breaks a recording off;
-- else it ends as the bytes after the calls say.
abbrev pub ending : {V : Type 0} → ℕ → List (Result (Answer V) Refusal) → Result ℕ RecordingFault → Result ℕ RecordingFault
ending place [] closing = closing
ending place (Ok a ∷ xs) closing = ending (place + call_size) xs closing
ending place (Err e ∷ xs) closing = Err (fault_at (Refused e) place)

-- the calls before the first that is refused
abbrev pub calls_before_refusal : {V : Type 0} → List Call → List (Result (Answer V) Refusal) → List Call
calls_before_refusal [] xs = []
calls_before_refusal (c ∷ cs) [] = []
calls_before_refusal (c ∷ cs) (Ok a ∷ xs) = c ∷ calls_before_refusal cs xs
calls_before_refusal (c ∷ cs) (Err e ∷ xs) = []

-- the line of an accepted mark of unit u, under a judge with these two answers
abbrev pub mark_line : (some all : ℕ → Bool) → ℕ → Marked ℕ → MarkLine
mark_line some all u m =
    record { unit = u; clock = m.clock; predecessors = m.predecessors; states = m.value; some = some m.value; all = all m.value }

module _ (m : Meaning ℕ) (some all : ℕ → Bool) where
  -- the line of an accepted call of unit u: only a mark has one
  abbrev pub line : ℕ → Answer ℕ → List MarkLine
  line u (Sent clock) = []
  line u (Received clock) = []
  line u (marked m) = mark_line some all u m ∷ []

  -- the lines of the calls before the first that is refused
  abbrev pub lines : List Call → List (Result (Answer ℕ) Refusal) → List MarkLine
  lines [] xs = []
  lines (c ∷ cs) [] = []
  lines (c ∷ cs) (Ok a ∷ xs) = line c.unit a ++ lines cs xs
  lines (c ∷ cs) (Err e ∷ xs) = []

  -- What the calls that some bytes begin with come to on a board of n units and k messages with these contents; they stand at a byte of the input.
  abbrev pub transcript_on : ℕ → ℕ → Contents ℕ → ℕ → List ℕ → Transcript
  transcript_on n k s place bytes =
      let cs = calls_in bytes in
      let xs = outcomes_from (measured_payload m n) (measured_size m n k most_marks) s cs in
      let left = left_among (contents_from (measured_payload m n) (measured_size m n k most_marks) s cs).posts k in
      record {
        units = n;
        messages = k;
        calls = calls_before_refusal cs xs;
        lines = lines cs xs;
        end = ending place xs (end_after_calls left (place + call_size * length cs) (first_command (drop (call_size * length cs) bytes)));
      }

  -- a recording that breaks off before any call
  abbrev pub empty_transcript : Reason → ℕ → Transcript
  empty_transcript reason place = record { units = 0; messages = 0; calls = []; lines = []; end = Err (fault_at reason place) }

  -- a recording by its making, which is refused for its size, or makes the board to which the rest is handed
  abbrev pub transcript_of_board : ℕ → ℕ → ℕ → List ℕ → Option Refusal → Transcript
  transcript_of_board n k place bytes (Some e) = empty_transcript (Refused e) place
  transcript_of_board n k place bytes None = transcript_on n k (new_contents (measured_payload m n)) (place + making_size) bytes

  -- a recording by its first command, which begins at a byte of the input
  abbrev pub transcript_from : ℕ → Result (Command × List ℕ) Reason → Transcript
  transcript_from place (Err reason) = empty_transcript reason place
  transcript_from place (Ok (commands.Make n k, rest)) = transcript_of_board n k place rest (make_refusal n k true)
  transcript_from place (Ok (commands.Call c, rest)) = empty_transcript NoBoard place
  transcript_from place (Ok (commands.End, rest)) = empty_transcript NoBoard place

  -- What a recording in some bytes comes to, which begin at a byte of the input: its first command makes the board.
  abbrev pub transcript : ℕ → List ℕ → Transcript
  transcript place bytes = transcript_from place (first_command bytes)
