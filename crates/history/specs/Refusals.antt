-- The refusals of a board and of a comparison, with their numbers, and how questions are asked.
use Rattle.std.specs.Prelude.{ℕ, Bool, if◌then◌else◌, Some, Option}
use Rattle.history.specs.declared.refusals.Refusal.{Refusal}
use Rattle.history.specs.declared.refusals.Refusal.TheVariants.{UnitCount, MessageCount, MemoryTooShort, NoSuchUnit, NoSuchMessage, NoSuchLabel, SentBefore, NeverSent, ReceivedBefore, ClockFull, StampLength}

-- The number of each refusal.
abbrev pub number : Refusal → ℕ
number UnitCount = 1
number MessageCount = 2
number MemoryTooShort = 3
number NoSuchUnit = 4
number NoSuchMessage = 5
number NoSuchLabel = 6
number SentBefore = 7
number NeverSent = 8
number ReceivedBefore = 9
number ClockFull = 10
number StampLength = 12

-- A question, what a no gives, and the questions after it: the first no decides.
abbrev pub ask : {X : Type 0} → Bool → X → Option X → Option X
ask good x rest = if good then rest else Some x
