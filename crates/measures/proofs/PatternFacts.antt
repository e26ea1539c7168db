-- A pattern recognizes the words that its bytes accept.
use Rattle.std.proofs.Common.{◌≡◌, ℕ, ◌+◌, ◌*◌, ◌^◌, ◌<◌, ◌≤◌, Bool, ◌⊎◌, ◌↔◌, List, [], ◌∷◌, map, get_or, sym, ap, ◌∙◌, subst, inl, inr, ⊎_elim, arith}
use lib.Bits.{bit_or}
use Rattle.std.proofs.Math.Path.{fun_ext}
use Rattle.std.proofs.lemmas.Grind.{common_steps}
use Rattle.std.proofs.lemmas.Bool.Decides.{same_from_decides, Decides-eqb}
use Rattle.std.specs.List.{AllByRecursion}
use Rattle.bitset.specs.Sets.{bit, Member, has, meets, within}
use Rattle.bitset.proofs.Promises.{member_or, or_member_left, or_member_right}
use Rattle.measures.specs.Limits.{most_entries, most_labels}
use Rattle.measures.specs.Words.{Letter, Word, Labels}
use Rattle.measures.specs.Measures.{word_value, join_of}
use Rattle.measures.specs.Automata.{next, leads, state_sets}
use Rattle.measures.specs.Formats.{labels_in, table_in, with_zeros, PatternOf}
use Rattle.measures.specs.Acceptance.{state_after, accepts, Any, Recognizes}
use Rattle.measures.proofs.AcceptanceFacts.{word_value_one, only_member, meets_one, within_one}

-- the zeros after a table change no entry
with_zeros_at : (n : ℕ) (t : List ℕ) (i : ℕ) → get_or (with_zeros n t) i 0 ≡ get_or t i 0
with_zeros_at n t i = grind (arith, common_steps)

pub with_zeros_complete : (n bound count : ℕ) (t table : List ℕ) → table ≡ with_zeros n t → ((k : ℕ) → k < count → get_or t k 0 < bound) → (k : ℕ) → k < count → get_or table k 0 < bound
with_zeros_complete n bound count t table is below k h = rw (is, with_zeros_at n t k) (below k h)

module _ (b : List ℕ) (states labels start finals : ℕ) (table : List ℕ) (parts : PatternOf b states labels start finals table) (in_range : (0 < labels) × (labels ≤ most_labels)) (begins : start < states) (complete : (k : ℕ) → k < states * labels → get_or table k 0 < states) where
  state_read : (w : Word) → leads (next labels table) start w ≡ state_after b w
  state_read w =
      ap (λ (d : Letter → ℕ → ℕ). leads d start w)
      (fun_ext (λ l. fun_ext (λ q.
      ap (λ (t : List ℕ). get_or t (q * labels + l) 0) parts.table_is
      ∙ with_zeros_at most_entries (table_in b) (q * labels + l)
      ∙ ap (λ (a : ℕ). get_or (table_in b) (q * a + l) 0) parts.labels_are)))
      ∙ ap (λ (q : ℕ). leads (next (labels_in b) (table_in b)) q w) parts.start_is

  here : (w : Word) → Labels (labels_in b) w → Labels labels w
  here w ls = subst (λ (n : ℕ). Labels n w) (sym parts.labels_are) ls

  one : (w : Word) → Labels (labels_in b) w → word_value (state_sets states labels start table) w ≡ 2 ^ state_after b w
  one w ls = word_value_one states labels start table in_range begins complete w (here w ls) ∙ ap (λ (q : ℕ). 2 ^ q) (state_read w)

  pub member : (w : Word) → Labels (labels_in b) w → (q : ℕ) → Member q (word_value (state_sets states labels start table) w) ↔ (state_after b w ≡ q)
  member w ls q = subst (λ (set : ℕ). Member q set ↔ (state_after b w ≡ q)) (sym (one w ls)) (only_member (state_after b w) q)

  -- the members of a join that begins with a set, and then has the sets of words
  joined_member : (set : ℕ) (ws : List Word) → AllByRecursion (Labels (labels_in b)) ws → (q : ℕ)
      → Member q (join_of (state_sets states labels start table) set (map (word_value (state_sets states labels start table)) ws)) ↔ (Member q set ⊎ Any (λ v. state_after b v ≡ q) ws)
  joined_member set [] ls q = (inl, ⊎_elim (λ m. m) (λ n. absurd n))
  joined_member set (w ∷ ws) ls q =
      let more = word_value (state_sets states labels start table) w in
      let this = member w ls.0 q in
      let rest = joined_member (bit_or set more) ws ls.1 q in (
        λ m. ⊎_elim (λ i. ⊎_elim inl (λ k. inr (inl (this.0 k))) (member_or set more q i)) (λ i. inr (inr i)) (rest.0 m),
        λ p. rest.1 (⊎_elim (λ i. inl (or_member_left set more q i)) (⊎_elim (λ e. inl (or_member_right set more q (this.1 e))) inr) p),
      )

  answer_is : (answer : ℕ → Bool) → ((w : Word) → answer (2 ^ state_after b w) ≡ has finals (state_after b w)) → (w : Word) → Labels (labels_in b) w → answer (word_value (state_sets states labels start table) w) ≡ accepts b w
  answer_is answer decided w ls = ap answer (one w ls) ∙ decided w ∙ ap (λ (f : ℕ). has f (state_after b w)) parts.finals_are

  pub recognizes : Recognizes b (state_sets states labels start table) (λ set. meets set finals) (λ set. within set finals)
  recognizes = record {
    labels_are = parts.labels_are;
    one = one;
    union = λ w ws ls q.
        let this = member w ls.0 q in
        let rest = joined_member (word_value (state_sets states labels start table) w) ws ls.1 q in
        (λ m. ⊎_elim (λ i. inl (this.0 i)) inr (rest.0 m), λ p. rest.1 (⊎_elim (λ e. inl (this.1 e)) inr p));
    some_is = answer_is (λ set. meets set finals) (λ w. same_from_decides _ _ (meets_one finals (state_after b w)) (Decides-eqb (bit finals (state_after b w)) 1));
    all_is = answer_is (λ set. within set finals) (λ w. same_from_decides _ _ (within_one finals (state_after b w)) (Decides-eqb (bit finals (state_after b w)) 1));
  }
