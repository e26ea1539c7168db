use Rattle.std.proofs.Common.{◌≡◌, ◌+◌, ◌*◌, ◌++◌, take, drop}
use Rattle.text.specs.Hex.{hex}
use Rattle.reports.proofs.buffers.put_hex.Given as goal

-- the digits of the bytes so far are written, two of each, and the text before the word stays
abbrev pub invariant-loop-byte : goal.invariant-loop-byte
invariant-loop-byte l = record {
  from : l.from + l.byte-index * 2 ≡ l.at + 16;
  written : drop l.from l.bytes ≡ hex (l.byte-index * 2) l.word ++ drop (l.at + 16) l.initial.bytes;
  before : take l.at l.bytes ≡ take l.at l.initial.bytes;
}
