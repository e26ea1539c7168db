-- Numbers written with hexadecimal digits.
use Rattle.std.specs.Prelude.{ℕ, zero, suc, ◌+◌, ◌/◌, ◌%◌, ◌^◌, if◌then◌else◌, List, [], ◌∷◌, nat_lt}

-- the byte of the digit d: 0 to 9, then a to f
abbrev pub digit_in_hex : ℕ → ℕ
digit_in_hex d = if nat_lt d 10 then 48 + d else 87 + d

-- the last k digits of v, highest first
abbrev pub hex : ℕ → ℕ → List ℕ
hex zero v = []
hex (suc k) v = digit_in_hex (v / 16 ^ k % 16) ∷ hex k v

-- the 16 digits of a word of 64 bits
unfoldable pub hex_word : ℕ → List ℕ
hex_word v = hex 16 v
