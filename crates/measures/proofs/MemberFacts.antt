-- The values of a set's members, gathered from the lowest on.
use Rattle.std.proofs.Common.{◌≡◌, ℕ, zero, suc, ◌^◌, ◌<◌, ◌≤◌, false, ◌&&◌, not, eqb, leb, List, Some, Option, get_or, sym, ap, ◌∙◌, subst, inl, inr, arith}
use Rattle.std.proofs.lemmas.Bool.{cases_lt, cases_eq, cond-true, cond-false}
use Rattle.std.proofs.lemmas.Bool.Decides.{nat_tests}
use Rattle.std.proofs.lemmas.Nat.Bits.{bit_at-zero, bit_at_above}
use Rattle.bitset.specs.Sets.{Member, has}
use Rattle.bitset.proofs.Promises.{cases_bit}
use Rattle.history.specs.declared.cells.Cell.{Cell}
use Rattle.measures.specs.Measures.{Meaning}
use Rattle.measures.specs.Worths.{plus, flagged_join}
use Rattle.measures.specs.Calls.{flagged_by}

module _ {V : Type 0} (m : Meaning V) where
  -- cells with no flag add nothing
  pub flagged_join_idle : (r : ℕ → Cell V) (i n : ℕ) → i ≤ n → ((j : ℕ) → i ≤ j → j < n → (r j).flag ≡ false) → flagged_join m r n ≡ flagged_join m r i
  flagged_join_idle r i zero h none = let e : 0 ≡ i = omega arith in ap (flagged_join m r) e
  flagged_join_idle r i (suc n) h none = elim (cases_lt n i) [
    | inl l ↦ let e : suc n ≡ i = omega arith in ap (flagged_join m r) e
    | inr g ↦ cond-false (r n).flag _ _ (none n g (omega arith)) ∙ flagged_join_idle r i n g (λ j a b. none j a (omega arith))
  ]

  -- The members of a set below a place are gathered, and the rest has the others.
  pub record SoFar (set : ℕ) (values : List V) (rest : ℕ) (all : Option V) : Type 0 where
    pub place : ℕ
    pub others : (p : ℕ) → has rest p ≡ (leb place p && has set p)
    pub sum : all ≡ flagged_join m (flagged_by set m.start values) place

  module _ (set : ℕ) (values : List V) (rest : ℕ) (all : Option V) (s : SoFar set values rest all) where
    -- one more member, the lowest of the rest
    pub so_far_more : (q left : ℕ) (x : V) → Member q rest → ((p : ℕ) → Member p rest → q ≤ p) → ((p : ℕ) → has left p ≡ (has rest p && not (eqb p q)))
        → Some x ≡ plus m all (Some (get_or values q m.start)) → SoFar set values left (Some x)
    so_far_more q left x here lowest without e = record {
      place = suc q;
      others = λ p.
          let a = without p in
          let b = s.others p in
          let c = s.others q in
          elim (cases_lt p q) [
            | inl l ↦ elim (cases_bit rest p) [ inl z ↦ grind (arith, nat_tests) | inr i ↦ absurd (omega (arith, lowest p i)) ]
            | inr g ↦ elim (cases_eq p q) [ inl d ↦ grind (arith, nat_tests) | inr d ↦ grind (arith, nat_tests) ]
          ];
      sum = e ∙ ap (λ (o : Option V). plus m o (Some (get_or values q m.start))) (s.sum ∙ sym (flagged_join_idle (flagged_by set m.start values) s.place q (grind (arith, nat_tests)) none)) ∙ sym (cond-true (has set q) _ _ (grind (arith, nat_tests)));
    }
      where
        none : (j : ℕ) → s.place ≤ j → j < q → has set j ≡ false
        none j a b =
            let e = s.others j in
            elim (cases_bit rest j) [ inl z ↦ grind (arith, nat_tests) | inr i ↦ absurd (omega (arith, lowest j i)) ]

    -- once nothing is left, all members are gathered
    pub so_far_all : rest ≡ 0 → (n : ℕ) → set < 2 ^ n → all ≡ flagged_join m (flagged_by set m.start values) n
    so_far_all z n small = elim (cases_lt s.place n) [
      | inl l ↦ s.sum ∙ sym (flagged_join_idle (flagged_by set m.start values) s.place n (omega arith) none)
      | inr g ↦ s.sum ∙ flagged_join_idle (flagged_by set m.start values) n s.place g past
    ]
      where
        none : (j : ℕ) → s.place ≤ j → j < n → has set j ≡ false
        none j a b =
            let e : has 0 j ≡ (leb s.place j && has set j) = subst (λ (r : ℕ). has r j ≡ (leb s.place j && has set j)) z (s.others j) in
            let x = bit_at-zero j in
            grind (arith, nat_tests)

        past : (j : ℕ) → n ≤ j → j < s.place → has set j ≡ false
        past j a b = let e = bit_at_above set n j small a in grind (arith, nat_tests)
