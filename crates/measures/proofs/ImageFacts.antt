-- Images of sets: their members, what they make of single numbers, and what a loop over the members finds.
use Rattle.std.specs.Prelude.{◌≡◌, ℕ, zero, suc, ◌^◌, ◌<◌, Bool, ◌&&◌, bit_or}
use Rattle.std.proofs.Common.{refl, ap, ap₂, cond, ltb, sym, subst, ◌∙◌, arith}
use Rattle.std.proofs.lemmas.Bool.{lt-ltb}
use Rattle.std.proofs.lemmas.Bool.Decides.{nat_tests}
use Rattle.bitset.specs.Sets.{Member, Without, has}
use Rattle.std.specs.Int.Bits.{or_zero_r}
use Rattle.std.proofs.lemmas.Nat.Bits.{bit_at-zero, bit_at-pow_same}
use Rattle.bitset.proofs.Promises.{bit_pow, or_assoc, put_back, same_members}
use Rattle.measures.specs.Automata.{image, Image}
use Rattle.measures.specs.ImageLaws.{image_passed, image_into, image_from, image_or}

module _ (f : ℕ → ℕ) where
  pub image_is : (n set r : ℕ) → r ≡ image f n set → Image f n set r
  image_is n set r e = subst (Image f n set) (sym e) (record { into = image_into f n set; from = image_from f n set })

  -- one number goes to one number
  pub image_pow : (n p : ℕ) → p < n → image f n (2 ^ p) ≡ 2 ^ f p
  image_pow n p h =
      same_members (image f n (2 ^ p)) (2 ^ f p)
      (λ q m.
      let r = image_from f n (2 ^ p) q m in
      subst (λ (k : ℕ). Member k (2 ^ f p)) (ap f (bit_pow p r.0 r.2) ∙ r.3) (bit_at-pow_same (f p)))
      (λ q m. subst (λ (k : ℕ). Member k (image f n (2 ^ p))) (bit_pow (f p) q m) (image_into f n (2 ^ p) p h (bit_at-pow_same p)))

  -- the image of a set is that of what is left without one of its members, and where that goes
  pub image_without : (n set rest q : ℕ) → q < n → Member q set → Without q set rest → image f n set ≡ bit_or (2 ^ f q) (image f n rest)
  image_without n set rest q h m left =
      ap (image f n) (put_back set rest q m left) ∙ image_or f n (2 ^ q) rest ∙ ap (λ (r : ℕ). bit_or r (image f n rest)) (image_pow n q h)

  -- only the members below n count
  pub image_same : (n a b : ℕ) → ((p : ℕ) → p < n → has a p ≡ has b p) → image f n a ≡ image f n b
  image_same zero a b e = refl
  image_same (suc n) a b e =
      ap₂ (λ (h : Bool) (r : ℕ). cond h (bit_or r (2 ^ f n)) r) (e n (omega arith)) (image_same n a b (λ p l. e p (omega arith)))

  -- a set and its members below n have the same image
  pub image_masked : (n set part : ℕ) → ((p : ℕ) → has part p ≡ (has set p && ltb p n)) → image f n part ≡ image f n set
  image_masked n set part e = image_same n part set (λ p l. let t = lt-ltb p n l in let x = e p in grind (arith, nat_tests))

  -- the empty set goes to the empty set
  pub image_empty : (n : ℕ) → image f n 0 ≡ 0
  image_empty zero = refl
  image_empty (suc n) = image_passed f n 0 (bit_at-zero n) ∙ image_empty n

  -- One member of what is left is moved: where it goes joins what has been found.
  pub image_moved : (n set rest left q out : ℕ) → q < n → Member q rest → Without q rest left
      → bit_or out (image f n rest) ≡ image f n set → bit_or (bit_or out (2 ^ f q)) (image f n left) ≡ image f n set
  image_moved n set rest left q out h m without whole =
      or_assoc out (2 ^ f q) (image f n left) ∙ ap (bit_or out) (sym (image_without n rest left q h m without)) ∙ whole

  -- once nothing is left, what has been found is the image
  pub image_found : (n set rest out : ℕ) → rest ≡ 0 → bit_or out (image f n rest) ≡ image f n set → out ≡ image f n set
  image_found n set rest out z whole =
      sym (or_zero_r out) ∙ ap (bit_or out) (sym (ap (image f n) z ∙ image_empty n)) ∙ whole
