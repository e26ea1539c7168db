-- Lemmas, and no meaning: an `impl` gives the proof of its trait's laws, and may name only what stands in specs/.
-- The images of sets, on which the laws of state sets rest: their members, unions, and how large they are.
use Rattle.std.specs.Prelude.{◌≡◌, ℕ, zero, suc, ◌^◌, ◌<◌, bit_or}
use Rattle.std.proofs.Common.{sym, subst, inl, inr, ⊎_elim, arith}
use Rattle.std.proofs.lemmas.Bool.{cases_lt, cond-true, cond-false, eq-eqb, ne_eqb, ltb-true, lt-ltb}
use Rattle.bitset.specs.Sets.{bit, Member, has}
use Rattle.std.proofs.lemmas.Nat.Bits.{bit_at-zero, bit_at-pow_same}
use Rattle.bitset.proofs.Promises.{bit_pow, cases_bit, same_members, member_or, or_member_left, or_member_right, some_member, member_pos, below_members}
use Rattle.measures.specs.Automata.{image}

module _ (f : ℕ → ℕ) where
  image_taken : (n set : ℕ) → Member n set → image f (suc n) set ≡ bit_or (image f n set) (2 ^ f n)
  image_taken n set m = cond-true (has set n) _ _ (eq-eqb (bit set n) 1 m)

  pub image_passed : (n set : ℕ) → bit set n ≡ 0 → image f (suc n) set ≡ image f n set
  image_passed n set z = cond-false (has set n) _ _ (ne_eqb (bit set n) 1 (λ e. omega arith))

  image_keeps : (n set q : ℕ) → Member q (image f n set) → Member q (image f (suc n) set)
  image_keeps n set q m =
      elim (cases_bit set n) [
        | inl z ↦ subst (Member q) (sym (image_passed n set z)) m
        | inr i ↦ subst (Member q) (sym (image_taken n set i)) (or_member_left (image f n set) (2 ^ f n) q m)
      ]

  pub image_into : (n set p : ℕ) → p < n → Member p set → Member (f p) (image f n set)
  image_into zero set p h m = absurd (omega arith)
  image_into (suc n) set p h m =
      elim (cases_lt p n) [
        | inl l ↦ image_keeps n set (f p) (image_into n set p l m)
        | inr l ↦
            let e : n ≡ p = omega arith in
            let here : Member n set = subst (λ (k : ℕ). Member k set) (sym e) m in
            let to : Member (f p) (2 ^ f n) = subst (λ (k : ℕ). Member (f p) (2 ^ f k)) (sym e) (bit_at-pow_same (f p)) in
            subst (Member (f p)) (sym (image_taken n set here)) (or_member_right (image f n set) (2 ^ f n) (f p) to)
      ]

  -- what the first n numbers give, and then the number n
  image_from_one_more : (n set q : ℕ) → (Member q (image f n set) → (p : ℕ) × (p < suc n) × Member p set × (f p ≡ q)) → Member q (image f (suc n) set) → (p : ℕ) × (p < suc n) × Member p set × (f p ≡ q)
  image_from_one_more n set q earlier m =
      elim (cases_bit set n) [
        | inl z ↦ earlier (subst (Member q) (image_passed n set z) m)
        | inr i ↦ ⊎_elim earlier (λ k. (n, omega arith, i, bit_pow (f n) q k)) (member_or (image f n set) (2 ^ f n) q (subst (Member q) (image_taken n set i) m))
      ]

  pub image_from : (n set q : ℕ) → Member q (image f n set) → (p : ℕ) × (p < n) × Member p set × (f p ≡ q)
  image_from zero set q m = absurd (omega (arith, bit_at-zero q))
  image_from (suc n) set q m =
      image_from_one_more n set q (λ k. let r = image_from n set q k in (r.0, omega (arith, r.1), r.2, r.3)) m

  pub image_or : (n a b : ℕ) → image f n (bit_or a b) ≡ bit_or (image f n a) (image f n b)
  image_or n a b =
      same_members (image f n (bit_or a b)) (bit_or (image f n a) (image f n b))
      (λ q m.
      let r = image_from n (bit_or a b) q m in
      let p = r.0 in
      subst (λ (k : ℕ). Member k (bit_or (image f n a) (image f n b))) r.3
      (⊎_elim
      (λ i. or_member_left (image f n a) (image f n b) (f p) (image_into n a p r.1 i))
      (λ i. or_member_right (image f n a) (image f n b) (f p) (image_into n b p r.1 i))
      (member_or a b p r.2)))
      (λ q m. ⊎_elim
      (λ i. let r = image_from n a q i in subst (λ (k : ℕ). Member k (image f n (bit_or a b))) r.3 (image_into n (bit_or a b) r.0 r.1 (or_member_left a b r.0 r.2)))
      (λ i. let r = image_from n b q i in subst (λ (k : ℕ). Member k (image f n (bit_or a b))) r.3 (image_into n (bit_or a b) r.0 r.1 (or_member_right a b r.0 r.2)))
      (member_or (image f n a) (image f n b) q m))

  pub image_below : (n set k : ℕ) → ((p : ℕ) → p < n → f p < k) → image f n set < 2 ^ k
  image_below n set k h =
      ltb-true (image f n set) (2 ^ k)
      ((below_members (image f n set) k).1 (λ q m. let r = image_from n set q m in subst (λ (j : ℕ). j < k) r.3 (h r.0 r.1)))

  pub image_pos : (n set : ℕ) → 0 < set → set < 2 ^ n → 0 < image f n set
  image_pos n set some small =
      let (p, m) = some_member set some in
      member_pos (image f n set) (f p) (image_into n set p ((below_members set n).0 (lt-ltb set (2 ^ n) small) p m) m)
