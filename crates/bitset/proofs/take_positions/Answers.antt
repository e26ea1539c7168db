use Rattle.std.proofs.Common.{◌≡◌, ℕ, ◌+◌, ◌-◌, ◌<◌, ◌≤◌, Bool, false, List, ◌++◌, length, min, take, drop, get_or, replicate, sym, ap, ap₂, ◌∙◌, arith, length-drop, length-take, rules}
use Rattle.std.proofs.lemmas.Slice.{take-put_mid_below, between_to_end, between-put_mid}
use Rattle.std.proofs.lemmas.List.{places, same_lists, length-replicate, replicate-append-replicate}
use Rattle.std.specs.List.{between}
use borrow.Rule.Slice.PartMut.{put_mid}
use Rattle.bitset.specs.Sets.{those, positions_in}
use Rattle.bitset.proofs.PositionFacts.{those_same}
use Rattle.bitset.proofs.take_positions.Goals as goal
use Rattle.bitset.proofs.take_positions.Goals.{then-few-gt64, else-few-gt64}

-- The flags from 64 on are in no set.
front_positions : (xs : List Bool) (few : ℕ) → few ≡ min (length xs) 64 → positions_in (take few xs) ≡ positions_in xs
front_positions xs few is =
    let long : length (take few xs) ≡ few = simp length-take (omega arith) in
    let count : min (length (take few xs)) 64 ≡ min (length xs) 64 = omega arith in
    ap (those (λ q. get_or (take few xs) q false)) count ∙ those_same _ _ (min (length xs) 64) (λ q h. search (rules, places))

-- The flags from 64 on, once they are no.
module _ (xs mid part : List Bool) (size : length mid ≡ length xs) (many : 64 < length xs) (is : mid ≡ put_mid 64 (length xs - 64) xs part) (cleared : part ≡ replicate (length (take (length xs - 64) (drop 64 xs))) false) where
  same_front : (few : ℕ) → few ≤ 64 → take few mid ≡ take few xs
  same_front few h = ap (take few) is ∙ take-put_mid_below 64 (length xs - 64) xs part few h (omega arith)

  all_cleared : (few : ℕ) (new : List Bool) → few ≡ 64 → new ≡ replicate (length (take few mid)) false → new ++ drop few mid ≡ replicate (length xs) false
  all_cleared few new e h =
      let n = length xs in
      let rest_length : length (take (n - 64) (drop 64 xs)) ≡ n - 64 = simp (length-take, length-drop) (omega arith) in
      let front_length : length (take few xs) ≡ 64 = simp length-take (omega arith) in
      let part_is : part ≡ replicate (n - 64) false = cleared ∙ ap (λ (k : ℕ). replicate k false) rest_length in
      let new_is : new ≡ replicate 64 false =
      h ∙ ap (λ (ys : List Bool). replicate (length ys) false) (same_front few (omega arith)) ∙ ap (λ (k : ℕ). replicate k false) front_length in
      let part_length : length part ≡ n - 64 = ap (λ (ys : List Bool). length ys) part_is ∙ length-replicate (n - 64) false in
      let rest_is : drop 64 mid ≡ part =
      sym (between_to_end mid 64 n (omega (arith, size))) ∙ ap (between 64 n) is ∙ between-put_mid 64 (n - 64) xs part n (omega arith) part_length in
      let sum : 64 + (n - 64) ≡ n = omega arith in
      ap₂ (λ (xs ys : List Bool). xs ++ ys) new_is (ap (λ (k : ℕ). drop k mid) e ∙ rest_is ∙ part_is)
      ∙ replicate-append-replicate 64 (n - 64) false
      ∙ ap (λ (k : ℕ). replicate k false) sum

few_cleared : (xs mid : List Bool) (few : ℕ) (new : List Bool) → mid ≡ xs → few ≡ length xs → new ≡ replicate (length (take few mid)) false → new ++ drop few mid ≡ replicate (length xs) false
few_cleared xs mid few new same e h = rw (h, same, e) (same_lists _ _ (search (rules, places)) (λ k d inside. grind (arith, places)))

pub returns-clause-positions : goal.returns-clause-positions
returns-clause-positions c =
    c.sweep.ensures.positions
    ∙ elim c.if-few-gt64.branch [
      | then-few-gt64 w ↦
          ap positions_in (same_front c.args.flags.now c.if-few-gt64.flags w.fill.new.self c.if-few-gt64.auto.flags w.if-few-gt64.true w.flags-is (w.fill.ensures.after (λ y e. e)) c.if-few-gt64.few (omega arith))
          ∙ front_positions c.args.flags.now c.if-few-gt64.few (omega arith)
      | else-few-gt64 w ↦
          ap (λ (xs : List Bool). positions_in (take c.if-few-gt64.few xs)) w.flags-is ∙ front_positions c.args.flags.now c.if-few-gt64.few (omega arith)
    ]

pub returns-clause-flags : goal.returns-clause-flags
returns-clause-flags c =
    elim c.if-few-gt64.branch [
      | then-few-gt64 w ↦
          all_cleared c.args.flags.now c.if-few-gt64.flags w.fill.new.self c.if-few-gt64.auto.flags w.if-few-gt64.true w.flags-is (w.fill.ensures.after (λ y e. e)) c.if-few-gt64.few _ (omega arith) c.sweep.ensures.flags
      | else-few-gt64 w ↦ few_cleared c.args.flags.now c.if-few-gt64.flags c.if-few-gt64.few _ w.flags-is (omega arith) c.sweep.ensures.flags
    ]
