use Rattle.std.proofs.Common.{◌≡◌, ◌+◌, ◌%◌, set, arith, length-set, refl}
use Rattle.std.proofs.lemmas.List.{set_comm, drop-set}
use Rattle.text.specs.Hex.{digit_in_hex}
use Rattle.reports.proofs.HexFacts.{HEX_PAIRS_at}
use Rattle.reports.proofs.buffers.write_pair.Goals as goal

pub returns-clause-written : goal.returns-clause-written
returns-clause-written c =
    let p = HEX_PAIRS_at c.args.byte c.ranges.byte.fits in
    let bytes = c.args.bytes.now in
    let at = c.args.at in
    let next : at + 1 + 1 ≡ at + 2 = omega arith in
    let low = digit_in_hex (c.args.byte % 16) in
    rw (
      p.0,
      p.1,
      set_comm bytes at (at + 1) _ _ (λ x. omega arith),
      drop-set (set bytes (at + 1) low) at _ (omega (arith, length-set bytes (at + 1) low)),
      drop-set bytes (at + 1) _ (omega arith),
      next,
    ) refl
