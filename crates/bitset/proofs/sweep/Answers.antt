use Rattle.std.proofs.Common.{rules, ◌≡◌, ◌+◌, ◌-◌, ◌<◌, Bool, false, length, replicate, slice_index_or, arith, ap, sym, ◌∙◌, inl, inr, length-set, List}
use Rattle.std.proofs.lemmas.Bool.{cases_eq, cases_lt}
use Rattle.std.proofs.lemmas.List.{places, same_lists, get_or-replicate, get_or-set_same, get_or-set_other, length-replicate}
use mir.Val.{bool_byte}
use Rattle.bitset.specs.Sets.{those}
use Rattle.bitset.proofs.PositionFacts.{one_before, those_same}
use Rattle.bitset.proofs.EightFacts.{eight_before, cleared, cell_before, cell_within, cell_after}
use Rattle.bitset.proofs.sweep.Goals as goal

pub loop-q-preserved : goal.loop-q-preserved
loop-q-preserved c =
    let l = c.loop-q in
    let i = l.invariant in
    let p = l.q - 8 in
    let test = c.loop-q-test.true in
    let here : c.eight.result ≡ those (λ j. slice_index_or c.args.flags.now (p + j) false) 8 =
    c.eight.ensures ∙ those_same _ _ 8 (λ j h. i.below (p + j) (omega arith)) in
    let count : p + 8 - p ≡ 8 = omega arith in
    let filled_is : c.fill.new.self ≡ replicate 8 false = cleared l.flags c.fill.new.self p _ count (omega (arith, i.size, i.place)) (c.fill.ensures.after (λ y e. e)) in
    let filled_length : length c.fill.new.self ≡ 8 = ap (λ (t : List Bool). length t) filled_is ∙ length-replicate 8 false in
    record {
      set = eight_before (λ j. slice_index_or c.args.flags.now j false) p l.q (length c.args.flags.now) l.set c.eight.result (omega arith) i.place c.requires i.set here;
      size = search (rules, places, i.size);
      place = omega (arith, i.place);
      below = λ j h. cell_before p 8 _ l.flags c.fill.new.self j false (omega arith) (omega (arith, i.size, i.place)) filled_length h ∙ i.below j (omega arith);
      above = λ j d h short. elim (cases_lt j l.q) [
        | inl low ↦ cell_within p 8 _ l.flags c.fill.new.self j d (omega arith) (omega (arith, i.size, i.place)) filled_is (omega arith) (omega arith)
        | inr high ↦ cell_after p 8 _ l.flags c.fill.new.self j d (omega arith) (omega (arith, i.size, i.place)) filled_length (omega arith) ∙ i.above j d (omega arith) short
      ];
    }

pub loop-q-2-preserved : goal.loop-q-2-preserved
loop-q-2-preserved c =
    let l = c.loop-q-2 in
    let i = l.invariant in
    let p = l.q - 1 in
    let test = c.loop-q-2-test.true in
    record {
      set = one_before (λ j. slice_index_or c.args.flags.now j false) p l.q (length c.args.flags.now) l.set c.from.result (omega arith) i.place c.requires i.set (c.from.ensures ∙ ap bool_byte (i.below p (omega arith)));
      size = length-set l.flags p false ∙ i.size;
      place = omega (arith, i.place);
      below = λ j h. get_or-set_other l.flags p j false false (λ e. omega arith) ∙ i.below j (omega arith);
      above = λ j d h short. elim (cases_eq j p) [
        | inl e ↦ rw e (get_or-set_same l.flags p false d (omega (arith, i.size, i.place)))
        | inr o ↦ get_or-set_other l.flags p j false d (λ e. o (omega arith)) ∙ i.above j d (omega arith) short
      ];
    }

pub returns-clause-flags : goal.returns-clause-flags
returns-clause-flags c =
    let l = c.loop-q-2 in
    let n = length c.args.flags.now in
    let i = l.invariant in
    let e : length l.flags ≡ length (replicate n false) = i.size ∙ sym (length-replicate n false) in
    same_lists l.flags (replicate n false) e (λ k d h. let inside : k < n = omega (arith, i.size) in i.above k d (omega arith) inside ∙ sym (get_or-replicate n k false d inside))
