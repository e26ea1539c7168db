-- The commands of a recording: each is its first byte, its operands of one byte each, and the rest.
use Rattle.std.specs.Prelude.{ℕ, if◌then◌else◌, List, [], ◌∷◌, Ok, Err, Result, Some, None, Option, ◌==◌}
use Rattle.history.specs.declared.calls.Event.TheVariants.{Mark, Receive, Send}
use Rattle.history.specs.declared.calls.Event.{Event}
use Rattle.history.specs.declared.calls.Call as calls
use Rattle.history.specs.Runs.{call}
use Rattle.reports.specs.declared.commands.Command.{Command}
use Rattle.reports.specs.declared.commands.Command.TheVariants.{Make, Call, End}
use Rattle.reports.specs.declared.faults.Reason.{Reason}
use Rattle.reports.specs.declared.faults.Reason.TheVariants.{NoByte, NoCommand, NoOperands}

-- the first byte of each command
abbrev pub make_byte : ℕ
make_byte = 0x10

abbrev pub send_byte : ℕ
send_byte = 0x01

abbrev pub receive_byte : ℕ
receive_byte = 0x02

abbrev pub mark_byte : ℕ
mark_byte = 0x03

abbrev pub end_byte : ℕ
end_byte = 0x00

-- the bytes of a command that makes a board, and of one that is a call: the first byte, and two operands
abbrev pub making_size : ℕ
making_size = 3

abbrev pub call_size : ℕ
call_size = 3

-- two operands, and the rest
abbrev pub two_operand_command : (ℕ → ℕ → Command) → List ℕ → Result (Command × List ℕ) Reason
two_operand_command command [] = Err NoOperands
two_operand_command command (x ∷ []) = Err NoOperands
two_operand_command command (x ∷ (y ∷ rest)) = Ok (command x y, rest)

-- The first command of some bytes and the bytes after it, or why there is none. A making is of so many units and messages; a send and a receipt
-- are by a unit, of a message; a mark is of a unit, with a label.
abbrev pub first_command : List ℕ → Result (Command × List ℕ) Reason
first_command [] = Err NoByte
first_command (b ∷ rest) =
    if b == make_byte then two_operand_command Make rest
    else if b == send_byte then two_operand_command (λ u m. Call (record { unit = u; event = Send m })) rest
    else if b == receive_byte then two_operand_command (λ u m. Call (record { unit = u; event = Receive m })) rest
    else if b == mark_byte then two_operand_command (λ u l. Call (record { unit = u; event = Mark l })) rest
    else if b == end_byte then Ok (End, rest)
    else Err NoCommand

-- what the first byte of a send, a receipt or a mark and its second operand say
abbrev pub event_in : ℕ → ℕ → Option Event
event_in b x =
    if b == send_byte then Some (Send x)
    else if b == receive_byte then Some (Receive x)
    else if b == mark_byte then Some (Mark x)
    else None

-- a first call and those after it, if it is one; else no calls
abbrev pub calls_with_first : ℕ → Option Event → List calls.Call → List calls.Call
calls_with_first u None cs = []
calls_with_first u (Some e) cs = call u e ∷ cs

-- The calls that some bytes begin with: sends, receipts and marks, of three bytes each, up to the first command that is none of them.
abbrev pub calls_in : List ℕ → List calls.Call
calls_in [] = []
calls_in (b ∷ []) = []
calls_in (b ∷ (u ∷ [])) = []
calls_in (b ∷ (u ∷ (x ∷ rest))) = calls_with_first u (event_in b x) (calls_in rest)
