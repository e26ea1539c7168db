-- The waypoint.
use Rattle.std.specs.Prelude.{ℕ, ◌<◌, ◌≤◌, Bool, true, false, ◌&&◌, ◌||◌, ◌==◌, if◌then◌else◌, ⊤}
use Rattle.std.proofs.Common.{rules}
use Rattle.measures.specs.Limits.{most_labels}
use Rattle.measures.specs.Measures.{Meaning, Lawful}
use Rattle.waypoint.specs.declared.Passages.{Passages}

-- whether some flow passes the waypoint, and whether each does
abbrev pub passages : Bool → Bool → Passages
passages some each = record { some = some; each = each }

-- The waypoint `label` among n labels: before its first mark no flow has passed it, a mark with that
-- label passes it, and of the flows that meet at a mark some passes it if one does, each if all do.
abbrev pub waypoint : ℕ → ℕ → Meaning Passages
waypoint n label = record {
  labels = n;
  start = passages false false;
  step = λ v l. if l == label then passages true true else v;
  join = λ a b. passages (a.some || b.some) (a.each && b.each);
}

-- it keeps the laws, on every value
pub waypoint_lawful : (n label : ℕ) → label < n → n ≤ most_labels → Lawful (waypoint n label) (λ _. ⊤)
waypoint_lawful n label known few = search rules
