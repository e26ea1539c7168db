use Rattle.std.proofs.Common.{◌≡◌, ℕ, ◌+◌, ◌*◌, ◌/◌, ◌%◌, ◌^◌, ◌∷◌, [], false, slice_index_or, add-zero, refl, sym, ap, ◌∙◌}
use Rattle.std.specs.Int.{w64, from_le_bytes}
use mir.Val.{bool_byte}
use Rattle.bitset.proofs.EightFacts.{eight_gathered}
use Rattle.bitset.proofs.eight.Goals as goal

pub returns : goal.returns
returns c =
    let flags = c.args.flags.now in
    let q = c.args.q in
    let f = λ (i : ℕ). slice_index_or flags (q + i) false in
    let first : c.from.result ≡ bool_byte (f 0) = c.from.ensures ∙ ap (λ (k : ℕ). bool_byte (slice_index_or flags k false)) (sym (add-zero q)) in
    let word : c.from_le_bytes.result ≡ from_le_bytes w64 (bool_byte (f 0) ∷ bool_byte (f 1) ∷ bool_byte (f 2) ∷ bool_byte (f 3) ∷ bool_byte (f 4) ∷ bool_byte (f 5) ∷ bool_byte (f 6) ∷ bool_byte (f 7) ∷ []) =
    c.from_le_bytes.ensures ∙ rw (first, c.from-2.ensures, c.from-3.ensures, c.from-4.ensures, c.from-5.ensures, c.from-6.ensures, c.from-7.ensures, c.from-8.ensures) refl in
    ap (λ (x : ℕ). x * 72624976668147840 % 2 ^ 64 / 2 ^ 56) word ∙ eight_gathered (f 0) (f 1) (f 2) (f 3) (f 4) (f 5) (f 6) (f 7)
