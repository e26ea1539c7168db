-- Automata over sets of states: the states that words reach, and the accepted words.
use Rattle.std.specs.Prelude.{◌≡◌, ℕ, ◌*◌, ◌^◌, ◌<◌, ◌≤◌, Bool, ◌&&◌, ◌||◌, ◌↔◌, List, [], ◌∷◌, Decides, bit_or, slice_index, refl}
use Rattle.std.proofs.Common.{ap, sym, subst, inl, inr, ⊎_elim}
use Rattle.std.proofs.lemmas.Bool.{lt-ltb}
use Rattle.std.proofs.lemmas.Bool.Decides.{same_from_decides, Decides-at, Decides-like, Decides-or, Decides-and}
use Rattle.bitset.specs.Sets.{Member, meets, within}
use Rattle.std.proofs.lemmas.Nat.Bits.{bit_at-pow_same}
use Rattle.bitset.proofs.Promises.{bit_pow, member_or, or_member_left, or_member_right, meets_members, within_members}
use Rattle.measures.specs.Limits.{most_labels}
use Rattle.measures.specs.Words.{Word, Labels}
use Rattle.measures.specs.Measures.{word_value_from, word_value}
use Rattle.measures.specs.Judges.{Judges}
use Rattle.measures.specs.Automata.{next, leads, state_sets}
use Rattle.measures.specs.StateSetLaws.{next_below}
use Rattle.measures.proofs.ImageFacts.{image_pow}

-- the only member of 2 ^ q is q
pub only_member : (q k : ℕ) → Member k (2 ^ q) ↔ (q ≡ k)
only_member q k = (bit_pow q k, λ e. subst (λ (j : ℕ). Member j (2 ^ q)) e (bit_at-pow_same q))

pub meets_or : (f a b : ℕ) → meets (bit_or a b) f ≡ (meets a f || meets b f)
meets_or f a b =
    same_from_decides _ _ (meets_members (bit_or a b) f)
    (Decides-like (meets a f || meets b f)
    (⊎_elim (λ p. (p.0, or_member_left a b p.0 p.1, p.2)) (λ p. (p.0, or_member_right a b p.0 p.1, p.2)))
    (λ p. ⊎_elim (λ i. inl (p.0, i, p.2)) (λ i. inr (p.0, i, p.2)) (member_or a b p.0 p.1))
    (Decides-or (meets a f) (meets b f) (meets_members a f) (meets_members b f)))

pub within_or : (f a b : ℕ) → within (bit_or a b) f ≡ (within a f && within b f)
within_or f a b =
    same_from_decides _ _ (within_members (bit_or a b) f)
    (Decides-like (within a f && within b f)
    (λ p q m. ⊎_elim (p.0 q) (p.1 q) (member_or a b q m))
    (λ p. ((λ q m. p q (or_member_left a b q m)), (λ q m. p q (or_member_right a b q m))))
    (Decides-and (within a f) (within b f) (within_members a f) (within_members b f)))

-- a set of one state meets the final states, and is within them, exactly when the state is final
pub meets_one : (f q : ℕ) → Decides (meets (2 ^ q) f) (Member q f)
meets_one f q =
    Decides-like (meets (2 ^ q) f)
    (λ p. subst (λ (k : ℕ). Member k f) (sym (bit_pow q p.0 p.1)) p.2)
    (λ m. (q, bit_at-pow_same q, m))
    (meets_members (2 ^ q) f)

pub within_one : (f q : ℕ) → Decides (within (2 ^ q) f) (Member q f)
within_one f q =
    Decides-like (within (2 ^ q) f)
    (λ p. p q (bit_at-pow_same q))
    (λ m k i. subst (λ (j : ℕ). Member j f) (bit_pow q k i) m)
    (within_members (2 ^ q) f)

module _ (states labels start : ℕ) (table : List ℕ) (in_range : (0 < labels) × (labels ≤ most_labels)) (begins : start < states) (complete : (k : ℕ) → k < states * labels → slice_index table k < states) where
  word_value_pow : (q : ℕ) (w : Word) → q < states → Labels labels w → word_value_from (state_sets states labels start table) (2 ^ q) w ≡ 2 ^ leads (next labels table) q w
  word_value_pow q [] hq ls = refl
  word_value_pow q (l ∷ w) hq ls =
      rw (lt-ltb l labels ls.0, image_pow (next labels table l) states q hq) (word_value_pow (next labels table l q) w (next_below states labels start table in_range begins complete l q ls.0 hq) ls.1)

  pub word_value_one : (w : Word) → Labels labels w → word_value (state_sets states labels start table) w ≡ 2 ^ leads (next labels table) start w
  word_value_one w ls = word_value_pow start w begins ls

  -- An answer that goes through unions, and says of one state whether it is final, is yes exactly on the accepted words.
  pub shows_accepted : (finals : ℕ) (op : Bool → Bool → Bool) (answer : ℕ → Bool) {admits : ℕ → Type 0}
      → ((a b : ℕ) → answer (bit_or a b) ≡ op (answer a) (answer b)) → ((q : ℕ) → Decides (answer (2 ^ q)) (Member q finals))
      → Judges op (state_sets states labels start table) admits answer (λ w. Member (leads (next labels table) start w) finals)
  shows_accepted finals op answer joins one = record {
    joins = λ a b _ _. joins a b;
    decides = λ l w ls. Decides-at _ _ (ap answer (word_value_one (l ∷ w) ls)) (one (leads (next labels table) start (l ∷ w)));
  }
