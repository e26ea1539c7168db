-- The limits of patterns, relabellings and measures.
use Rattle.std.specs.Prelude.{ℕ}

-- A pattern has from 1 to 64 states, and a measure from 1 to 64 labels.
abbrev pub most_labels : ℕ
most_labels = 64

-- A pattern's table has at most so many entries: 64 labels for each of 64 states.
abbrev pub most_entries : ℕ
most_entries = 4096

-- A flow count goes up to this number, the largest of 32 bits.
abbrev pub most_flows : ℕ
most_flows = 4294967295

-- A span's lengths go up to this number, the largest of 16 bits.
abbrev pub most_length : ℕ
most_length = 65535

-- The largest limit of a span: above it the capped lengths could not tell good words from others.
abbrev pub most_limit : ℕ
most_limit = 65534
