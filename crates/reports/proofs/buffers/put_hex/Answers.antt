use Rattle.std.proofs.Common.{◌/◌, ◌%◌, ◌+◌, ◌-◌, ◌*◌, ◌≡◌, List, ℕ, ◌∷◌, ◌++◌, get_or, drop, arith, ap, ap₂, sym, ◌∙◌}
use Rattle.text.specs.Hex.{digit_in_hex, hex, hex_word}
use Rattle.reports.proofs.HexFacts.{put_from_end, digits_more}
use Rattle.reports.proofs.PrefixFacts.{take_shorter}
use Rattle.reports.proofs.buffers.put_hex.Goals as goal

pub loop-byte-preserved : goal.loop-byte-preserved
loop-byte-preserved c =
    let l = c.loop-byte in
    let k = l.byte-index in
    let from : l.from - 2 + 2 ≡ l.from = omega arith in
    let rest = drop (c.args.at + 16) c.args.bytes.now in
    let pair = λ (bytes text : List ℕ). digit_in_hex (get_or bytes k 0 / 16) ∷ digit_in_hex (get_or bytes k 0 % 16) ∷ text in
    record {
      from = omega arith;
      written = c.write_pair.ensures.written
          ∙ ap₂ pair c.to_le_bytes-byte-items.ensures (ap (λ (n : ℕ). drop n l.bytes) from ∙ l.invariant.written)
          ∙ digits_more c.args.word k rest c.loop-byte-test.true;
      before = take_shorter c.write_pair.new.bytes l.bytes c.args.at (l.from - 2) (omega arith) c.write_pair.ensures.before ∙ l.invariant.before;
    }

pub returns-clause-text : goal.returns-clause-text
unfolding hex_word
returns-clause-text c =
    let l = c.loop-byte in
    let i = l.invariant in
    let eight : l.byte-index ≡ 8 = omega arith in
    let at : l.from ≡ c.args.at = omega arith in
    put_from_end c.args.bytes.now l.bytes (hex 16 c.args.word) (drop (c.args.at + 16) c.args.bytes.now) c.args.at i.before
    (ap (λ (n : ℕ). drop n l.bytes) (sym at) ∙ i.written ∙ ap (λ (n : ℕ). hex (n * 2) c.args.word ++ drop (c.args.at + 16) c.args.bytes.now) eight)
