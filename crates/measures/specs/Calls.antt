-- What the calls on a board under a judge owe, and the rows of which a mark's worth speaks.
use Rattle.std.specs.Prelude.{◌≡◌, ℕ, Bool, List, Result, slice_index_or}
use Rattle.bitset.specs.Sets.{has}
use Rattle.history.specs.declared.calls.Answer.{Answer}
use Rattle.history.specs.declared.calls.Call.{Call}
use Rattle.history.specs.declared.cells.Cell.{Cell}
use Rattle.history.specs.declared.refusals.Refusal.{Refusal}
use Rattle.history.specs.Board.{answer_map}
use Rattle.causality.specs.Boards.{Memory, Obeys, Setup}
use Rattle.causality.specs.Calls.{result_as}
use Rattle.measures.specs.declared.judges.JudgedValue.{JudgedValue}

-- The cells whose flag is membership in a set, with these values; past their end a cell carries `start`. Their clocks do not matter.
abbrev pub flagged_by : {V : Type 0} → ℕ → V → List V → ℕ → Cell V
flagged_by set start values j = record { clock = 0; flag = has set j; value = slice_index_or values j start }

-- a value with a judge's two answers beside it
abbrev pub judged_value : {V : Type 0} → (V → Bool) → (V → Bool) → V → JudgedValue V
judged_value some all v = record { value = v; verdict = record { some = some v; all = all v } }

-- What a call owes under a judge with these two answers: it obeys the rules, and a mark's value has the verdict beside it.
pub record ObeysJudged {V : Type 0} (some all : V → Bool) (b : Setup V) (c : Call) (old new : Memory V)
    (r : Result (Answer (JudgedValue V)) Refusal) : Type 0 where
  pub answer : Result (Answer V) Refusal
  pub obeys : Obeys b c old new answer
  pub judged : r ≡ result_as (answer_map (judged_value some all)) answer
