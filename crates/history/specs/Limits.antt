-- The limits of boards.
use Rattle.std.specs.Prelude.{ℕ}

-- A board has from 1 to 16 units.
abbrev pub most_units : ℕ
most_units = 16

-- A board has at most 255 messages.
abbrev pub most_messages : ℕ
most_messages = 255

-- A unit can make so many marks: its own clock has 16 bits.
abbrev pub most_marks : ℕ
most_marks = 65535
