-- The report on an input: a pattern, a relabelling and a recording.
use Rattle.std.specs.Prelude.{ℕ, ◌+◌, Bool, if◌then◌else◌, List, [], ◌++◌, length, drop, Some, None, Ok, Err, Option, Result, nat_le}
use Rattle.std.specs.Option.{option_map, option_or}
use Rattle.bitset.specs.Sets.{meets, within}
use Rattle.measures.specs.Automata.{state_sets}
use Rattle.measures.specs.Formats.{states_in, labels_in, start_in, finals_in, table_in, relabelling_head_size, relabelling_labels_in, entries_in, with_zeros, pattern_size, pattern_fault, relabelling_fault}
use Rattle.measures.specs.Limits.{most_entries, most_labels}
use Rattle.measures.specs.Measures.{Meaning}
use Rattle.measures.specs.Relabellings.{relabelling}
use Rattle.text.specs.Inputs.{most_bytes}
use Rattle.reports.specs.declared.faults.Fault.{Fault}
use Rattle.reports.specs.declared.faults.Fault.TheVariants.{TooLong, Pattern, Relabelling, Recording}
use Rattle.reports.specs.declared.faults.RecordingFault.{RecordingFault}
use Rattle.reports.specs.Lines.{mark_lines, left_text, fault_text, header}
use Rattle.text.specs.Lines.{line_of}
use Rattle.reports.specs.Recordings.{Transcript, transcript}

-- the byte after the pattern, where the relabelling begins
abbrev pub relabelling_at : List ℕ → ℕ
relabelling_at b = pattern_size b

-- the byte after the relabelling, where the recording begins
abbrev pub recording_at : List ℕ → ℕ
recording_at b =
    relabelling_at b + (relabelling_head_size + relabelling_labels_in b (relabelling_at b))

-- Why an input has no recording that can be read: too many bytes, or else a bad pattern, or else a bad relabelling.
abbrev pub front_fault : List ℕ → Option Fault
front_fault b =
    if nat_le (length b) most_bytes
    then option_or (option_map Pattern (pattern_fault b))
    (option_map Relabelling (relabelling_fault b (relabelling_at b) (labels_in b)))
    else Some TooLong

-- the measure of the pattern under the relabelling
abbrev pub judge_in : List ℕ → Meaning ℕ
judge_in b =
    relabelling (with_zeros most_labels (entries_in b (relabelling_at b))) (relabelling_labels_in b (relabelling_at b))
    (state_sets (states_in b) (labels_in b) (start_in b) (with_zeros most_entries (table_in b)))

-- whether some flow is good, by the set of states that flows lead to: some of them is final
abbrev pub some_in : List ℕ → ℕ → Bool
some_in b set = meets set (finals_in b)

-- whether each flow is good: each of the states is final
abbrev pub all_in : List ℕ → ℕ → Bool
all_in b set = within set (finals_in b)

-- What the recording comes to.
abbrev pub transcript_in : List ℕ → Transcript
transcript_in b = transcript (judge_in b) (some_in b) (all_in b) (recording_at b) (drop (recording_at b) b)

-- a fault of a recording is one of its input
abbrev pub as_fault : Result ℕ RecordingFault → Result ℕ Fault
as_fault (Ok left) = Ok left
as_fault (Err f) = Err (Recording f)

-- How the report ends, by the fault before the recording: with it, or as the recording does.
abbrev pub end_by : List ℕ → Option Fault → Result ℕ Fault
end_by b (Some f) = Err f
end_by b None = as_fault (transcript_in b).end

-- The text before the last line: nothing where there is such a fault; else the header, and the lines of the marks.
abbrev pub text_by : List ℕ → Option Fault → List ℕ
text_by b (Some f) = []
text_by b None = header ++ mark_lines (transcript_in b).lines

-- the last line
abbrev pub end_text : Result ℕ Fault → List ℕ
end_text (Ok left) = left_text left
end_text (Err f) = fault_text f

-- The whole report.
abbrev pub report_on : List ℕ → List ℕ
report_on b = text_by b (front_fault b) ++ line_of (end_text (end_by b (front_fault b)))
