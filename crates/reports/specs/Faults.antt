-- The faults that end a report, each with its layer, its number and its place.
use Rattle.std.specs.Prelude.{ℕ, List, codes}
use Rattle.history.specs.Refusals as board
use Rattle.measures.specs.Refusals as readers
use Rattle.text.specs.Inputs.{most_bytes}
use Rattle.reports.specs.declared.faults.Reason.{Reason}
use Rattle.reports.specs.declared.faults.Reason.TheVariants.{NoByte, NoCommand, NoOperands, NoBoard, SecondBoard, BytesAfterEnd, Refused}
use Rattle.reports.specs.declared.faults.RecordingFault.{RecordingFault}
use Rattle.reports.specs.declared.faults.Fault.{Fault}
use Rattle.reports.specs.declared.faults.Fault.TheVariants.{TooLong, Pattern, Relabelling, Recording}

-- The number of each reason why a recording breaks off; a board's refusal keeps its own.
abbrev pub reason_number : Reason → ℕ
reason_number NoByte = 23
reason_number NoCommand = 24
reason_number NoOperands = 25
reason_number NoBoard = 26
reason_number SecondBoard = 27
reason_number BytesAfterEnd = 28
reason_number (Refused r) = board.number r

-- the layer that meets it, as a report writes it: the board, or the recording's own form
abbrev pub reason_layer : Reason → List ℕ
reason_layer NoByte = codes "R"
reason_layer NoCommand = codes "R"
reason_layer NoOperands = codes "R"
reason_layer NoBoard = codes "R"
reason_layer SecondBoard = codes "R"
reason_layer BytesAfterEnd = codes "R"
reason_layer (Refused r) = codes "B"

-- a reason why a recording breaks off, met at a byte of the input
abbrev pub fault_at : Reason → ℕ → RecordingFault
fault_at reason place = record { reason = reason; place = place }

-- The layer that meets each fault, as a report writes it: input, pattern, relabelling, recording or board.
abbrev pub layer : Fault → List ℕ
layer TooLong = codes "I"
layer (Pattern f) = codes "P"
layer (Relabelling f) = codes "L"
layer (Recording f) = reason_layer f.reason

-- the number of the fault that an input is too long
abbrev pub too_long_number : ℕ
too_long_number = 29

-- The number of each fault.
abbrev pub number : Fault → ℕ
number TooLong = too_long_number
number (Pattern f) = readers.number f.refusal
number (Relabelling f) = readers.number f.refusal
number (Recording f) = reason_number f.reason

-- The byte of the input at which each fault is met.
abbrev pub place : Fault → ℕ
place TooLong = most_bytes
place (Pattern f) = f.place
place (Relabelling f) = f.place
place (Recording f) = f.place
