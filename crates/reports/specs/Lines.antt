-- The lines of a report.
use Rattle.std.specs.Prelude.{ℕ, List, [], ◌∷◌, ◌++◌, codes, decimal}
use Rattle.text.specs.Hex.{hex_word}
use Rattle.text.specs.Lines.{line_of, bit}
use Rattle.reports.specs.declared.faults.Fault.{Fault}
use Rattle.reports.specs.declared.lines.MarkLine.{MarkLine}
use Rattle.reports.specs.Faults.{layer, number, place}

-- The line of a mark: its unit, its own clock, the units of its immediate predecessors as a number, the set of states as 16 hexadecimal
-- digits, and the two verdicts.
abbrev pub mark_text : MarkLine → List ℕ
mark_text l =
    decimal l.unit ++ codes " " ++ decimal l.clock ++ codes " " ++ decimal l.predecessors ++ codes " " ++ hex_word l.states ++ codes " "
    ++ decimal (bit l.some) ++ codes " " ++ decimal (bit l.all)

-- the lines of marks, one after the other
abbrev pub mark_lines : List MarkLine → List ℕ
mark_lines [] = []
mark_lines (l ∷ ls) = line_of (mark_text l) ++ mark_lines ls

-- the line of a good end: how many messages are left on their way
abbrev pub left_text : ℕ → List ℕ
left_text count = codes "left " ++ decimal count

-- the line of a fault: its layer, number and place
abbrev pub fault_text : Fault → List ℕ
fault_text f = codes "fault " ++ layer f ++ codes " " ++ decimal (number f) ++ codes " " ++ decimal (place f)

-- the names of what the lines of marks tell
abbrev pub header : List ℕ
header = line_of (codes "unit mark preds states some all")
