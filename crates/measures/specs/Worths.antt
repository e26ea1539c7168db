-- What a mark is worth under a measure, and what a board's cells carry and its size is.
use Rattle.std.specs.Prelude.{ℕ, zero, suc, if◌then◌else◌, Some, None, Option}
use Rattle.std.specs.Option.{unwrap_or}
use Rattle.history.specs.Rows.{Payload}
use Rattle.history.specs.declared.cells.Cell.{Cell}
use Rattle.history.specs.Runs.{Size}
use Rattle.causality.specs.Payloads.{PayloadRules, payload_on}
use Rattle.measures.specs.Words.{letter_of}
use Rattle.measures.specs.Measures.{Meaning, fits}

module _ {V : Type 0} (m : Meaning V) where
  -- the join of what there is
  abbrev pub plus : Option V → Option V → Option V
  plus None y = y
  plus (Some x) None = Some x
  plus (Some x) (Some y) = Some (m.join x y)

  -- the values of the flagged cells below n, joined in rising order
  abbrev pub flagged_join : (ℕ → Cell V) → ℕ → Option V
  flagged_join r zero = None
  flagged_join r (suc j) = if (r j).flag then plus (flagged_join r j) (Some (r j).value) else flagged_join r j

  -- What a mark of unit u with label l is worth: the join of the flagged values, or start if there are none, stepped by the
  -- mark's letter.
  abbrev pub worth : ℕ → (ℕ → Cell V) → ℕ → ℕ → V
  worth n r u l = m.step (unwrap_or (flagged_join r n) m.start) (letter_of u l)

  -- what the cells of a board carry under the measure, and the labels that it has
  abbrev pub measured_rules : PayloadRules V
  measured_rules = record { start = m.start; make = worth; fits = fits m }

  -- what the cells of a board of n units carry
  abbrev pub measured_payload : ℕ → Payload V
  measured_payload n = payload_on measured_rules n

  -- the size of a board of n units and k messages under the measure, whose units can make so many marks
  abbrev pub measured_size : ℕ → ℕ → ℕ → Size
  measured_size n k limit = record { units = n; messages = k; fits = fits m; limit = limit }
