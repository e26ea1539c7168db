-- The refusals of readers and makers of measures, with their numbers and places.
use Rattle.std.specs.Prelude.{ℕ, Bool, ◌&&◌, None, Option, nat_le}
pub use Rattle.history.specs.Refusals.{ask}
use Rattle.measures.specs.declared.refusals.Fault.{Fault}
use Rattle.measures.specs.Limits.{most_labels, most_limit}
use Rattle.measures.specs.declared.refusals.Refusal.{Refusal}
use Rattle.measures.specs.declared.refusals.Refusal.TheVariants.{PatternTooShort, NotAPattern, StateCount, LabelCount, StartState, FinalStates, TableTooShort, EntryTooLarge, SpanLimit, NotARelabelling}

-- The number of each refusal.
abbrev pub number : Refusal → ℕ
number PatternTooShort = 13
number NotAPattern = 14
number StateCount = 15
number LabelCount = 16
number StartState = 17
number FinalStates = 18
number TableTooShort = 19
number EntryTooLarge = 20
number SpanLimit = 21
number NotARelabelling = 22

-- a refusal met at a byte of the input
abbrev pub fault : Refusal → ℕ → Fault
fault r p = record { refusal = r; place = p }

-- from 1 to 64
abbrev pub is_count : ℕ → Bool
is_count n = nat_le 1 n && nat_le n most_labels

-- what a flow count is refused for
abbrev pub flow_count_refusal : ℕ → Option Refusal
flow_count_refusal labels = ask (is_count labels) LabelCount None

-- what a span is refused for
abbrev pub span_refusal : ℕ → ℕ → Option Refusal
span_refusal labels limit = ask (is_count labels) LabelCount (ask (nat_le limit most_limit) SpanLimit None)
