-- The hexadecimal digits of a byte in the table of pairs, and of the bytes of a word, which are put from its end on.
use Rattle.std.proofs.Common.{◌≡◌, ℕ, zero, suc, ◌+◌, ◌*◌, ◌/◌, ◌%◌, ◌^◌, ◌<◌, ◌∷◌, ◌++◌, List, length, take, drop, get_or, slice_index, arith, add-zero, zero-add, refl, ap, ap₂, sym, ◌∙◌}
use Rattle.std.proofs.Math.Seq.{take-add, take-append_seam}
use Rattle.std.proofs.Math.Nat.{div-div-eq-div-mul, pow-suc}
use Rattle.std.specs.Int.{w64, byte_at, bytes_low_first, to_le_bytes}
use Rattle.text.specs.Hex.{digit_in_hex, hex}
use Rattle.text.proofs.Promises.{byte_is}
use Rattle.reports.specs.declared.buffers.TheConstants.{HEX_PAIRS}
use Rattle.reports.proofs.PairFacts.{pair_at}

-- A piece that is written from its end stands after the text before it.
pub put_from_end : (old new piece rest : List ℕ) (at : ℕ) → take at new ≡ take at old → drop at new ≡ piece ++ rest → take (at + length piece) new ≡ take at old ++ piece
put_from_end old new piece rest at before written =
    take-add at (length piece) new
    ∙ ap (λ (t : List ℕ). t ++ take (length piece) (drop at new)) before
    ∙ ap (λ (t : List ℕ). take at old ++ take (length piece) t) written
    ∙ ap (λ (t : List ℕ). take at old ++ t) (take-append_seam piece rest)

-- The table has the digits of each byte.
pub HEX_PAIRS_at : (b : ℕ) → b < 256
    → (slice_index HEX_PAIRS (b * 2) ≡ digit_in_hex (b / 16)) × (slice_index HEX_PAIRS (b * 2 + 1) ≡ digit_in_hex (b % 16))
HEX_PAIRS_at b small = pair_at HEX_PAIRS (λ n. digit_in_hex (n / 16)) (λ n. digit_in_hex (n % 16)) 256 b refl small

-- The bytes of a word from byte i on have byte i + k at k.
byte_of : (i k n w : ℕ) → k < n → get_or (bytes_low_first i n w) k 0 ≡ byte_at (i + k) w
byte_of i k zero w h = absurd (omega arith)
byte_of i zero (suc n) w h = ap (λ j. byte_at j w) (sym (add-zero i))
byte_of i (suc k) (suc n) w h = byte_of (suc i) k n w (omega arith) ∙ ap (λ j. byte_at j w) (omega arith)

-- The digits of the next byte of a word, before those that are written.
pub digits_more : (w k : ℕ) (old : List ℕ) → k < 8 → let b = get_or (to_le_bytes w64 w) k 0 in
    digit_in_hex (b / 16) ∷ digit_in_hex (b % 16) ∷ (hex (k * 2) w ++ old) ≡ hex ((k + 1) * 2) w ++ old
digits_more w k old h =
    let two : (k + 1) * 2 ≡ suc (suc (k * 2)) = omega arith in
    let x = w / 16 ^ (k * 2) in
    let is : get_or (to_le_bytes w64 w) k 0 ≡ x % 256 = byte_of 0 k 8 w h ∙ ap (λ j. byte_at j w) (zero-add k) ∙ byte_is k w in
    let up : x / 16 ≡ w / 16 ^ suc (k * 2) = div-div-eq-div-mul w (16 ^ (k * 2)) 16 ∙ ap (λ n. w / n) (sym (pow-suc 16 (k * 2))) in
    let high : get_or (to_le_bytes w64 w) k 0 / 16 ≡ w / 16 ^ suc (k * 2) % 16 = omega arith in
    let low : get_or (to_le_bytes w64 w) k 0 % 16 ≡ x % 16 = omega arith in
    ap₂ (λ c d. digit_in_hex c ∷ digit_in_hex d ∷ (hex (k * 2) w ++ old)) high low
    ∙ ap (λ j. hex j w ++ old) (sym two)
