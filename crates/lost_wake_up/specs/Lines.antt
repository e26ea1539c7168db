-- The lines that are printed.
use Rattle.std.specs.Prelude.{ℕ, List, ◌++◌, Ok, Err, Result, codes, decimal}
use Rattle.history.specs.declared.calls.Answer.{Answer}
use Rattle.history.specs.declared.calls.Answer.TheVariants.{Sent, Received, Marked}
use Rattle.history.specs.declared.calls.Call.{Call}
use Rattle.history.specs.declared.calls.Event.{Event}
use Rattle.history.specs.declared.calls.Event.TheVariants.{Send, Receive, Mark}
use Rattle.history.specs.declared.refusals.Refusal.{Refusal}
use Rattle.history.specs.Refusals.{number}
use Rattle.measures.specs.declared.judges.JudgedValue.{JudgedValue}
use Rattle.text.specs.Hex.{hex_word}
use Rattle.text.specs.Lines.{bit}

-- What a line says of an answer: a clock; of a mark its clock, its predecessors, the set of states and the verdict; or the refusal's number.
abbrev pub reply_text : Result (Answer (JudgedValue ℕ)) Refusal → List ℕ
reply_text (Ok (Sent clock)) = decimal clock
reply_text (Ok (Received clock)) = decimal clock
reply_text (Ok (Marked m)) =
    decimal m.clock ++ codes " " ++ decimal m.predecessors ++ codes " " ++ hex_word m.value.value ++ codes " " ++ decimal (bit m.value.verdict.some)
    ++ codes " " ++ decimal (bit m.value.verdict.all)
reply_text (Err e) = codes "refused " ++ decimal (number e)

-- what a line says of an event: its kind, and the number of its message or label
abbrev pub event_text : Event → List ℕ
event_text (Send message) = codes "send " ++ decimal message
event_text (Receive message) = codes "receive " ++ decimal message
event_text (Mark label) = codes "mark " ++ decimal label

-- what a line says of a call: its unit, its event and the reply
abbrev pub call_text : Call → Result (Answer (JudgedValue ℕ)) Refusal → List ℕ
call_text call reply = decimal call.unit ++ codes " " ++ event_text call.event ++ codes " " ++ reply_text reply
