-- Flags taken eight at a time.
use Rattle.std.proofs.Common.{◌≡◌, ℕ, zero, suc, ◌+◌, ◌-◌, ◌*◌, ◌/◌, ◌%◌, ◌^◌, ◌<◌, ◌≤◌, ◌∷◌, [], Bool, true, false, cond, ◌&&◌, ◌==◌, get_or, zero-add, List, length, replicate, take, drop, length-take, length-drop, refl, sym, ap, ap₂, ◌∙◌, arith, pow_mono, pow-add, eqb-true}
use Rattle.std.specs.Int.{w64, from_le_bytes}
use Rattle.std.proofs.lemmas.Grind.{or_after_shift, common_steps}
use Rattle.std.proofs.lemmas.Bool.{and_parts}
use Rattle.std.proofs.lemmas.List.{places}
use borrow.Rule.Slice.PartMut.{put_mid}
use mir.Val.{bool_byte}
use lib.Bits.{bit_or}
use Rattle.bitset.specs.Sets.{those}
use Rattle.bitset.proofs.PositionFacts.{those_last, those_same, those_below}

-- one choice on both sides: a place above, moved up by eight
above : (b : Bool) (x y z t s : ℕ) → x ≡ y * 256 + z → t ≡ s * 256 → cond b (t + x) x ≡ cond b (s + y) y * 256 + z
above true x y z t s e p = omega arith
above false x y z t s e p = e

-- the first eight stand below the others, which are moved up by eight places
those_split : (f : ℕ → Bool) (m : ℕ) → those f (8 + m) ≡ those (λ i. f (8 + i)) m * 256 + those f 8
those_split f zero = sym (zero-add (those f 8))
those_split f (suc m) =
    let e : 2 ^ (8 + m) ≡ 2 ^ m * 256 = pow-add 2 8 m ∙ omega arith in
    let next : 8 + suc m ≡ suc (8 + m) = omega arith in
    ap (those f) next ∙ those_last f (8 + m) ∙ above (f (8 + m)) _ _ _ _ _ (those_split f m) e ∙ ap (λ (x : ℕ). x * 256 + those f 8) (sym (those_last (λ i. f (8 + i)) m))

-- eight places more, below those from q on
pub eight_before : (f : ℕ → Bool) (p q n set b : ℕ) → q ≡ p + 8 → q ≤ n → n ≤ 64 → set ≡ those (λ i. f (q + i)) (n - q) → b ≡ those (λ i. f (p + i)) 8
    → bit_or (set * 256 % 2 ^ 64) b ≡ those (λ i. f (p + i)) (n - p)
eight_before f p q n set b next within few is low =
    let m = n - q in
    let count : n - p ≡ 8 + m = omega arith in
    let short : m ≤ 56 = omega arith in
    let small : set < 2 ^ 56 = omega (arith, is, those_below (λ i. f (q + i)) m, pow_mono short) in
    let byte : b < 256 = omega (arith, low, those_below (λ i. f (p + i)) 8) in
    let same : set ≡ those (λ i. f (p + (8 + i))) m = is ∙ those_same _ _ m (λ j h. ap f (omega arith)) in
    or_after_shift set 256 (2 ^ 64) b refl byte (omega arith) ∙ ap₂ (λ (x y : ℕ). x * 256 + y) same low ∙ sym (those_split (λ i. f (p + i)) m) ∙ ap (those (λ i. f (p + i))) (sym count)

-- whether a test is true of both
both : (Bool → Bool) → Bool
both f = f true && f false

both_at : (f : Bool → Bool) → both f ≡ true → (b : Bool) → f b ≡ true
unfolding both
both_at f e true = (and_parts (f true) (f false) e).0
both_at f e false = (and_parts (f true) (f false) e).1

-- eight flags as bytes of a word, gathered into its highest byte
gathered : Bool → Bool → Bool → Bool → Bool → Bool → Bool → Bool → Bool
gathered a b c d e f g h =
    (from_le_bytes w64 (bool_byte a ∷ bool_byte b ∷ bool_byte c ∷ bool_byte d ∷ bool_byte e ∷ bool_byte f ∷ bool_byte g ∷ bool_byte h ∷ []) * 72624976668147840 % 2 ^ 64 / 2 ^ 56)
    == those (λ j. get_or (a ∷ b ∷ c ∷ d ∷ e ∷ f ∷ g ∷ h ∷ []) j false) 8

all_gathered : both (λ a. both (λ b. both (λ c. both (λ d. both (λ e. both (λ f. both (λ g. both (λ h. gathered a b c d e f g h)))))))) ≡ true
unfolding both gathered
all_gathered = refl

pub eight_gathered : (a b c d e f g h : Bool)
    → from_le_bytes w64 (bool_byte a ∷ bool_byte b ∷ bool_byte c ∷ bool_byte d ∷ bool_byte e ∷ bool_byte f ∷ bool_byte g ∷ bool_byte h ∷ []) * 72624976668147840 % 2 ^ 64 / 2 ^ 56
    ≡ those (λ j. get_or (a ∷ b ∷ c ∷ d ∷ e ∷ f ∷ g ∷ h ∷ []) j false) 8
unfolding gathered
eight_gathered a b c d e f g h =
    eqb-true _ _ (both_at _ (both_at _ (both_at _ (both_at _ (both_at _ (both_at _ (both_at _ (both_at _ all_gathered a) b) c) d) e) f) g) h)

module _ {X : Type 0} (p k n : ℕ) (xs ys : List X) (j : ℕ) (d : X) (size : n ≡ k) (inside : p + k ≤ length xs) where
  pub cell_before : length ys ≡ k → j < p → get_or (put_mid p n xs ys) j d ≡ get_or xs j d
  cell_before e h = rw size (grind (arith, places, common_steps))

  pub cell_after : length ys ≡ k → p + k ≤ j → get_or (put_mid p n xs ys) j d ≡ get_or xs j d
  cell_after e h = rw size (grind (arith, places, common_steps))

  pub cell_within : {v : X} → ys ≡ replicate k v → p ≤ j → j < p + k → get_or (put_mid p n xs ys) j d ≡ v
  cell_within e low high = rw (size, e) (grind (arith, places, common_steps))

-- eight flags that were set to no
pub cleared : (xs ys : List Bool) (p n : ℕ) → n ≡ 8 → p + 8 ≤ length xs → ys ≡ replicate (length (take n (drop p xs))) false → ys ≡ replicate 8 false
cleared xs ys p n size inside is =
    let e : length (take n (drop p xs)) ≡ 8 = simp (length-take, length-drop) (omega arith) in
    is ∙ ap (λ (k : ℕ). replicate k false) e
