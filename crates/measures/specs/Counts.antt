-- The flow count.
use Rattle.std.specs.Prelude.{◌≡◌, ℕ, ◌+◌, ◌<◌, ◌≤◌, min}
use Rattle.std.proofs.Common.{rules}
use Rattle.history.specs.Counting.{HowMany}
use Rattle.history.specs.Events.{Events}
use Rattle.history.specs.Flows.{Longest}
use Rattle.measures.specs.declared.counts.FlowCount.{FlowCount}
use Rattle.measures.specs.Boards.{AtAnswers}
use Rattle.measures.specs.Limits.{most_flows, most_labels}
use Rattle.measures.specs.Measures.{Meaning, Lawful}

-- The flow count over n labels: 1 for each flow, added up to at most 4,294,967,295.
abbrev pub flow_count : ℕ → Meaning ℕ
flow_count n = record { labels = n; start = 1; step = λ v _. v; join = λ a b. min (a + b) most_flows }

-- a number up to the cap
abbrev pub IsFlowCount : ℕ → Type 0
IsFlowCount v = v ≤ most_flows

-- it keeps the laws on the numbers up to its cap
pub flow_count_lawful : (n : ℕ) → (0 < n) × (n ≤ most_labels) → Lawful (flow_count n) IsFlowCount
flow_count_lawful n in_range = search rules

-- the flow count as a measure
abbrev pub count_meaning : FlowCount → Meaning ℕ
count_meaning m = flow_count m.labels.number

pub count_lawful : (m : FlowCount) → Lawful (count_meaning m) IsFlowCount
count_lawful m = flow_count_lawful m.labels.number m.labels.in_range

-- The value is the number of the longest flows that end at position i of unit u, up to the cap.
abbrev pub Counted : Events → ℕ → ℕ → ℕ → Type 0
Counted ev u i v = (flows : ℕ) × HowMany (Longest ev u i) flows × (v ≡ min flows most_flows)

-- So it is of the value answered at each accepted mark of every list of calls.
abbrev pub MarksCounted : Meaning ℕ → Type 0
MarksCounted m = AtAnswers m Counted
