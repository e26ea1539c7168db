-- What is true of every report.
use Rattle.std.specs.Prelude.{◌≡◌, ℕ, suc, ◌+◌, ◌*◌, ◌⊎◌, true, if◌then◌else◌, List, [], ◌∷◌, ◌++◌, length, drop, take, Some, None, Ok, Err, ◌↔◌, IsTrue, ◌==◌}
use Rattle.std.specs.List.{slice_get}
use Rattle.bitset.specs.Sets.{Member}
use Rattle.history.specs.declared.refusals.Refusal.{Refusal}
use Rattle.history.specs.Board as board
use Rattle.history.specs.Counting.{HowMany}
use Rattle.history.specs.Events.{Events, IsSent, IsReceived, Position}
use Rattle.history.specs.declared.calls.Event.TheVariants.{Mark}
use Rattle.history.specs.Flows.{Longest, word}
use Rattle.history.specs.HappenedBefore.{Immediate}
use Rattle.history.specs.Marks.{tick, marks}
use Rattle.history.specs.Runs.{Size, call, Possible, Run, by_unit, events_in, SameByUnit}
use Rattle.history.specs.declared.calls.Call.{Call}
use Rattle.history.specs.Limits.{most_marks}
use Rattle.causality.specs.Boards.{make_refusal}
use Rattle.measures.specs.Acceptance.{state_after, accepts}
use Rattle.measures.specs.Formats.{labels_in, entries_in, with_zeros}
use Rattle.measures.specs.Limits.{most_labels}
use Rattle.measures.specs.Laws.{TellsOfFlows}
use Rattle.measures.specs.Relabellings.{translation}
use Rattle.measures.specs.Words.{Word}
use Rattle.measures.specs.Worths.{measured_payload, measured_size}
use Rattle.reports.specs.declared.commands.Command.{Command}
use Rattle.reports.specs.declared.commands.Command.TheVariants as commands
use Rattle.reports.specs.declared.faults.Reason.{Reason}
use Rattle.reports.specs.declared.faults.Reason.TheVariants.{NoByte, NoCommand, NoOperands, NoBoard, SecondBoard, BytesAfterEnd, Refused}
use Rattle.reports.specs.declared.faults.RecordingFault.{RecordingFault}
use Rattle.reports.specs.declared.lines.MarkLine.{MarkLine}
use Rattle.reports.specs.Commands.{call_size, making_size, first_command, calls_in}
use Rattle.reports.specs.Faults.{fault_at}
use Rattle.reports.specs.Recordings.{Transcript}
use Rattle.reports.specs.Reports.{relabelling_at, recording_at, front_fault, judge_in, transcript_in}

-- the size of the board that a recording makes
abbrev pub size_in : List ℕ → Size
size_in b = measured_size (judge_in b) (transcript_in b).units (transcript_in b).messages most_marks

-- a word of the recording's labels in the pattern's
abbrev pub in_pattern : List ℕ → Word → Word
in_pattern b w = translation (with_zeros most_labels (entries_in b (relabelling_at b))) (labels_in b) w

-- how many of the calls are marks
abbrev pub marks_among : List Call → ℕ
marks_among [] = 0
marks_among (c ∷ cs) = tick (Some c.event) + marks_among cs

-- What a line tells of the mark that is event i of unit u: its unit; its own number among its unit's marks, from 1; the units of its immediate
-- predecessors; exactly the states to which the words of the longest flows that end there lead the pattern in the bytes b, once relabelled; and
-- whether some, and whether each, of these words is accepted.
pub record Tells (b : List ℕ) (ev : Events) (u i : ℕ) (line : MarkLine) : Type 0 where
  pub unit_is : line.unit ≡ u
  pub clock_is : line.clock ≡ marks ev u (suc i)
  pub predecessors_are : (v : ℕ) → Member v line.predecessors ↔ ((j : ℕ) × Immediate ev v j u i)
  pub states_are : (q : ℕ) → Member q line.states
      ↔ ((f : List Position) × Longest ev u i f × (state_after b (in_pattern b (word ev f)) ≡ q))
  pub verdict : TellsOfFlows (λ w. IsTrue (accepts b (in_pattern b w))) line.some line.all ev u i

-- Two inputs have the same front: the same bytes before their recordings, which are the pattern and the relabelling.
pub record SameFront (b d : List ℕ) : Type 0 where
  pub begins : recording_at b ≡ recording_at d
  pub bytes : take (recording_at b) b ≡ take (recording_at d) d

-- the lines of unit u
abbrev pub lines_of : ℕ → List MarkLine → List MarkLine
lines_of u [] = []
lines_of u (l ∷ ls) = if u == l.unit then l ∷ lines_of u ls else lines_of u ls

-- a making that is refused for its size, where a recording begins
abbrev pub RefusedMaking : List ℕ → ℕ → Refusal → Type 0
RefusedMaking b place e =
    (place ≡ recording_at b) × (n : ℕ) × (k : ℕ) × (rest : List ℕ)
    × (first_command (drop place b) ≡ Ok (commands.Make n k, rest)) × (make_refusal n k true ≡ Some e)

-- the byte after the calls that were read, where a board was made
abbrev pub AfterCalls : List ℕ → ℕ → Type 0
AfterCalls b place =
    (n : ℕ) × (k : ℕ) × (rest : List ℕ)
    × (first_command (drop (recording_at b) b) ≡ Ok (commands.Make n k, rest)) × (make_refusal n k true ≡ None)
    × (place ≡ recording_at b + making_size + call_size * length (transcript_in b).calls)

-- a call that the board refuses after the calls that were read
abbrev pub RefusedCall : List ℕ → Transcript → ℕ → Refusal → Type 0
RefusedCall b t place e =
    let M = measured_payload (judge_in b) t.units in
    let z = measured_size (judge_in b) t.units t.messages most_marks in
    (c : Call) × (cs : List Call) × (calls_in (drop place b) ≡ c ∷ cs)
    × (board.refusal M z (board.run M z t.calls).contents c.unit c.event ≡ Some e)

-- bytes that are no whole command, where the recording begins or after its calls
abbrev pub Malformed : List ℕ → ℕ → Reason → Type 0
Malformed b place reason = ((place ≡ recording_at b) ⊎ AfterCalls b place) × (first_command (drop place b) ≡ Err reason)

-- What stands where a recording breaks off: bytes that are no whole command; a command that makes no board, at the beginning, or one that makes
-- a second, after the calls; bytes after an end; or a making or a call that is refused.
abbrev pub Breaks : List ℕ → ℕ → Reason → Type 0
Breaks b place NoByte = Malformed b place NoByte
Breaks b place NoCommand = Malformed b place NoCommand
Breaks b place NoOperands = Malformed b place NoOperands
Breaks b place NoBoard =
    (place ≡ recording_at b) × (c : Command) × (rest : List ℕ)
    × (first_command (drop place b) ≡ Ok (c, rest)) × ((n k : ℕ) → c ≡ commands.Make n k → ⊥)
Breaks b place SecondBoard =
    AfterCalls b place × (n : ℕ) × (k : ℕ) × (rest : List ℕ) × (first_command (drop place b) ≡ Ok (commands.Make n k, rest))
Breaks b place BytesAfterEnd =
    (p : ℕ) × (place ≡ suc p) × AfterCalls b p × (x : ℕ) × (rest : List ℕ)
    × (first_command (drop p b) ≡ Ok (commands.End, x ∷ rest))
Breaks b place (Refused e) = RefusedMaking b place e ⊎ (AfterCalls b place × RefusedCall b (transcript_in b) place e)

-- What is true of a report on an input whose pattern and relabelling are accepted.
pub record ReportTrue (b : List ℕ) : Type 0 where
  -- the board has the size that the making asks for
  pub sized : (n k : ℕ) (rest : List ℕ)
      → first_command (drop (recording_at b) b) ≡ Ok (commands.Make n k, rest) → make_refusal n k true ≡ None
      → ((transcript_in b).units ≡ n) × ((transcript_in b).messages ≡ k)
  -- the calls read, up to the end or to where the recording breaks off, are what a real run could do
  pub run : Run (size_in b) (transcript_in b).calls
  -- and a call that the board refuses, there, is none that could come next
  pub refused : (e : Refusal) (place : ℕ) → (transcript_in b).end ≡ Err (fault_at (Refused e) place)
      → (c : Call) (cs : List Call) → calls_in (drop place b) ≡ c ∷ cs
      → Possible (size_in b) (by_unit (transcript_in b).calls) c.unit c.event → ⊥
  -- where it ends well, they are all calls after the command that makes the board
  pub all_read : (left : ℕ) → (transcript_in b).end ≡ Ok left
      → (transcript_in b).calls ≡ calls_in (drop making_size (drop (recording_at b) b))
  -- and after them stands an end, and nothing more
  pub ended : (left : ℕ) → (transcript_in b).end ≡ Ok left
      → (p : ℕ) × AfterCalls b p × (first_command (drop p b) ≡ Ok (commands.End, []))
  -- there is a line for each mark read, and no other, in the order of the recording
  pub lines_counted : length (transcript_in b).lines ≡ marks_among (transcript_in b).calls
  -- and it tells of the longest flows of the calls read up to that mark
  pub each_line : (before after : List Call) (u l : ℕ) → (transcript_in b).calls ≡ before ++ call u (Mark l) ∷ after
      → (line : MarkLine) × (slice_get (transcript_in b).lines (marks_among before) ≡ Some line)
      × Tells b (events_in (before ++ call u (Mark l) ∷ [])) u (length (by_unit before u)) line
  -- at the end, the messages that were sent and not received are counted
  pub left_counted : (left : ℕ) → (transcript_in b).end ≡ Ok left
      → HowMany (λ p. IsSent (events_in (transcript_in b).calls) p × (IsReceived (events_in (transcript_in b).calls) p → ⊥)) left
  -- where the recording breaks off, its lines are exactly those of its part before the break
  pub part : (f : RecordingFault) → (transcript_in b).end ≡ Err f
      → (front_fault (take f.place b) ≡ None) × SameFront b (take f.place b)
      × ((transcript_in (take f.place b)).calls ≡ (transcript_in b).calls)
      × ((transcript_in (take f.place b)).lines ≡ (transcript_in b).lines)
  -- the calls read are all that stand before the break
  pub read_to : (f : RecordingFault) → (transcript_in b).end ≡ Err f
      → (transcript_in b).calls ≡ calls_in (drop (recording_at b + making_size) (take f.place b))
  -- and what stands there is a reason to break off
  pub broke : (f : RecordingFault) → (transcript_in b).end ≡ Err f → Breaks b f.place f.reason

-- What two reports have in common whose recordings have the same accepted calls unit by unit, whatever the numbers of units and of messages of
-- their boards: each unit's lines, in their order; and the last line, if both end well.
pub record ReportsAgree (b d : List ℕ) : Type 0 where
  pub lines : (u : ℕ) → lines_of u (transcript_in b).lines ≡ lines_of u (transcript_in d).lines
  pub left : (x y : ℕ) → (transcript_in b).end ≡ Ok x → (transcript_in d).end ≡ Ok y → x ≡ y

-- The law of reports, for every input.
pub record LawOfReports : Type 0 where
  pub true_of_each : (b : List ℕ) → front_fault b ≡ None → ReportTrue b
  pub agree : (b d : List ℕ) → front_fault b ≡ None → front_fault d ≡ None → SameFront b d
      → SameByUnit (transcript_in b).calls (transcript_in d).calls → ReportsAgree b d
