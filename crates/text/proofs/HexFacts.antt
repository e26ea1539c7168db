-- The 16 digits of a word: read back, as a format with a width writes them, and as the digits of its bytes.
-- Read back, by induction over their number, the first digit first. As the format writes them: it puts zeros before the digits that a number has, and
-- these are the last of the sixteen, by induction from the last digit on. As bytes: two digits are one byte, so the last byte goes off at the end.
use Rattle.std.proofs.Common.{◌≡◌, ℕ, zero, suc, ◌+◌, ◌-◌, ◌*◌, ◌/◌, ◌%◌, ◌^◌, ◌<◌, ◌≤◌, ◌==◌, Bool, true, false, List, [], ◌∷◌, ◌++◌, length, replicate, if◌then◌else◌, sym, refl, ap, ap₂, ◌∙◌, append_assoc, append-nil, add_assoc, mul_assoc, add-mul, arith, lit<, lit≤, eqb-true}
use native.Mathlib.Nat.{div-div-eq-div-mul, one-le-pow, pow-succ', zero-div}
use lib.Arith.{mod-mul}
use Rattle.std.proofs.lemmas.Bool.{eqb-false}
use Rattle.std.proofs.lemmas.Bool.Decides.{nat_tests}
use Rattle.std.specs.Str.Parse.{digits_value, digits_value_after}
use Rattle.std.specs.Char.{digit_value as char_value}
use Rattle.std.specs.Fmt.{digits, digits_onto, padded_integral, format_spec, char_count}
use Rattle.std.specs.Int.{byte_at}
use Rattle.text.specs.Hex.{digit_in_hex, hex, hex_word}

-- ---- read back

-- A digit's byte has the digit as its value.
digit_value : (d : ℕ) → d < 16 → char_value (digit_in_hex d) ≡ d
digit_value d h = grind (arith, nat_tests)

-- There are as many digits as were asked for.
length_hex : (k v : ℕ) → length (hex k v) ≡ k
length_hex zero v = refl
length_hex (suc k) v = ap suc (length_hex k v)

-- The last k digits of v, read after the digits of n, add v's remainder by 16 ^ k to n moved up by k digits.
hex_after : (k n v : ℕ) → digits_value_after 16 n (hex k v) ≡ n * 16 ^ k + v % 16 ^ k
hex_after zero n v = omega arith
hex_after (suc k) n v =
    let d = v / 16 ^ k % 16 in
    let some : 0 < 16 ^ k = one-le-pow k 16 (lit< tt) in
    ap (λ x. digits_value_after 16 (n * 16 + x) (hex k v)) (digit_value d (omega arith)) ∙ hex_after k (n * 16 + d) v
    ∙ simp (pow-succ', mod-mul v {m = 16} (lit< tt) some, add-mul, mul_assoc, add_assoc)

-- The digits of a word are 16.
pub hex_word_length : (v : ℕ) → length (hex_word v) ≡ 16
unfolding hex_word
hex_word_length v = length_hex 16 v

-- They read back as the word.
pub hex_word_reads : (v : ℕ) → v < 2 ^ 64 → digits_value 16 (hex_word v) ≡ v
unfolding hex_word
hex_word_reads v h = hex_after 16 0 v ∙ omega arith

-- ---- a format with a width

-- The last digit of v follows the digits before it.
hex_last : (k v : ℕ) → hex (suc k) v ≡ hex k (v / 16) ++ digit_in_hex (v % 16) ∷ []
hex_last zero v = ap (λ x. digit_in_hex (x % 16) ∷ []) (omega arith)
hex_last (suc k) v =
    let front : v / 16 ^ suc k ≡ v / 16 / 16 ^ k = ap (λ p. v / p) (pow-succ' 16 k) ∙ sym (div-div-eq-div-mul v 16 (16 ^ k)) in
    ap₂ (λ x ds. digit_in_hex (x % 16) ∷ ds) front (hex_last k v)

-- The digits of no number are zeros.
hex_zeros : (k : ℕ) → hex k 0 ≡ replicate k 48
hex_zeros zero = refl
hex_zeros (suc k) = ap₂ (λ x ds. digit_in_hex (x % 16) ∷ ds) (zero-div (16 ^ k)) (hex_zeros k)

-- Zeros before a last digit that has none before it.
filled_once : (k n w : ℕ) (acc : List ℕ) → n / 16 ≡ 0 → w ≡ suc k + length acc
    → replicate (w - length (digit_in_hex (n % 16) ∷ acc)) 48 ++ digit_in_hex (n % 16) ∷ acc ≡ hex (suc k) n ++ acc
filled_once k n w acc none is =
    let d = digit_in_hex (n % 16) in
    let left : w - suc (length acc) ≡ k = omega arith in
    ap (λ j. replicate j 48 ++ d ∷ acc) left
    ∙ ap (λ ds. ds ++ d ∷ acc) (sym (ap (hex k) none ∙ hex_zeros k))
    ∙ sym (append_assoc (hex k (n / 16)) (d ∷ []) acc)
    ∙ ap (λ ds. ds ++ acc) (sym (hex_last k n))

-- Zeros before the digits from the last on, where what holds of more digits is given.
filled_step : (t : Bool) (k n w : ℕ) (acc more : List ℕ) → (n / 16 == 0) ≡ t → w ≡ suc k + length acc
    → ((n / 16 ≡ 0 → ⊥) → replicate (w - length more) 48 ++ more ≡ hex (suc k) n ++ acc)
    → replicate (w - length (if t then digit_in_hex (n % 16) ∷ acc else more)) 48 ++ (if t then digit_in_hex (n % 16) ∷ acc else more) ≡ hex (suc k) n ++ acc
filled_step true k n w acc more e is rest = filled_once k n w acc (eqb-true (n / 16) 0 e) is
filled_step false k n w acc more e is rest = rest (eqb-false (n / 16) 0 e)

-- Zeros before the digits of n make them as many as were asked for.
hex_filled : (k f n w : ℕ) (acc : List ℕ) → n < 16 ^ suc k → k ≤ f → w ≡ suc k + length acc
    → replicate (w - length (digits_onto (suc f) 16 false n acc)) 48 ++ digits_onto (suc f) 16 false n acc ≡ hex (suc k) n ++ acc
hex_filled zero f n w acc small room is =
    filled_step (n / 16 == 0) zero n w acc _ refl is (λ some. absurd (omega (arith, some)))
hex_filled (suc k) zero n w acc small room is = absurd (omega arith)
hex_filled (suc k) (suc f) n w acc small room is =
    let d = digit_in_hex (n % 16) in
    let fits : n / 16 < 16 ^ suc k = omega (arith, pow-succ' 16 (suc k)) in
    filled_step (n / 16 == 0) (suc k) n w acc (digits_onto (suc f) 16 false (n / 16) (d ∷ acc)) refl is
    (λ some. hex_filled k f (n / 16) w (d ∷ acc) fits (omega arith) (omega arith)
    ∙ sym (append_assoc (hex (suc k) (n / 16)) (d ∷ []) acc)
    ∙ ap (λ ds. ds ++ acc) (sym (hex_last (suc k) n)))

-- What the format writes of digits: zeros before them.
padded_zeros : (ds : List ℕ) → padded_integral (format_spec 32 0 4 16 (2 ^ 64 - 1)) false [] ds ≡ replicate (16 - length ds) 48 ++ ds
unfolding padded_integral char_count
padded_zeros ds = let none : 16 - length ds - 0 - 0 ≡ 16 - length ds = omega arith in rw (none, append-nil ds)

-- The digits of a number, from its last on.
digits_are : (n : ℕ) → digits 16 false n ≡ digits_onto (suc 63) 16 false n []
unfolding digits
digits_are n = refl

-- The format writes the digits of a word.
pub padded_word : (v : ℕ) → v < 2 ^ 64 → padded_integral (format_spec 32 0 4 16 (2 ^ 64 - 1)) false [] (digits 16 false v) ≡ hex_word v
unfolding hex_word
padded_word v h =
    padded_zeros (digits 16 false v)
    ∙ ap (λ ds. replicate (16 - length ds) 48 ++ ds) (digits_are v)
    ∙ hex_filled 15 63 v 16 [] h (lit≤ tt) refl
    ∙ append-nil (hex 16 v)

-- ---- the digits of bytes

-- A byte is two digits.
pow_pairs : (k : ℕ) → 256 ^ k ≡ 16 ^ (k * 2)
pow_pairs zero = refl
pow_pairs (suc k) =
    let two : suc k * 2 ≡ suc (suc (k * 2)) = omega arith in
    rw two (omega (arith, pow-succ' 256 k, pow_pairs k, pow-succ' 16 (suc (k * 2)), pow-succ' 16 (k * 2)))

-- A byte of a word is two of its digits.
pub byte_is : (k v : ℕ) → byte_at k v ≡ v / 16 ^ (k * 2) % 256
byte_is zero v = omega arith
byte_is (suc k) v = ap (λ p. v / p % 256) (pow_pairs (suc k))
