-- The decimal digits of numbers, two by two.
use Rattle.std.proofs.Common.{◌≡◌, ℕ, ◌+◌, ◌*◌, ◌/◌, ◌%◌, ◌^◌, ◌<◌, ◌≤◌, ◌++◌, length, decimal, slice_index, refl, ap, ◌∙◌, arith, append_assoc, length-append}
use Rattle.std.proofs.lemmas.Fmt.{decimal_digit, decimal_step}
use Rattle.reports.specs.declared.buffers.TheConstants.{DECIMAL_PAIRS}
use Rattle.reports.specs.Pages.{two_digits}
use Rattle.reports.proofs.PairFacts.{pair_at}

-- The table has the two digits of each number below 100.
pub DECIMAL_PAIRS_at : (b : ℕ) → b < 100 → (slice_index DECIMAL_PAIRS (b * 2) ≡ 48 + b / 10) × (slice_index DECIMAL_PAIRS (b * 2 + 1) ≡ 48 + b % 10)
DECIMAL_PAIRS_at b small = pair_at DECIMAL_PAIRS (λ n. 48 + n / 10) (λ n. 48 + n % 10) 100 b refl small

-- A number from 10 to 99 has two digits.
pub decimal_two : (n : ℕ) → 10 ≤ n → n < 100 → decimal n ≡ two_digits n
decimal_two n low high = rw (decimal_step n low (omega arith), decimal_digit (n / 10) (omega arith)) refl

-- A number from 100 on ends with two digits.
pub decimal_pair : (n : ℕ) → 100 ≤ n → n < 2 ^ 64 → decimal n ≡ decimal (n / 100) ++ two_digits (n % 100)
decimal_pair n low high =
    let hundreds : n / 10 / 10 ≡ n / 100 = omega arith in
    let tens : n / 10 % 10 ≡ n % 100 / 10 = omega arith in
    let ones : n % 10 ≡ n % 100 % 10 = omega arith in
    rw (decimal_step n (omega arith) high, decimal_step (n / 10) (omega arith) (omega arith), append_assoc, hundreds, tens, ← ones) refl

pub length_pair : (n : ℕ) → 100 ≤ n → n < 2 ^ 64 → length (decimal n) ≡ length (decimal (n / 100)) + 2
length_pair n low high = ap length (decimal_pair n low high) ∙ length-append (decimal (n / 100)) _

-- A number from 10,000 on ends with four.
pub decimal_four : (n : ℕ) → 10000 ≤ n → n < 2 ^ 64 → decimal n ≡ decimal (n / 10000) ++ two_digits (n % 10000 / 100) ++ two_digits (n % 10000 % 100)
decimal_four n low high =
    let first : n / 100 / 100 ≡ n / 10000 = omega arith in
    let third : n / 100 % 100 ≡ n % 10000 / 100 = omega arith in
    let last : n % 10000 % 100 ≡ n % 100 = omega arith in
    rw (decimal_pair n (omega arith) high, decimal_pair (n / 100) (omega arith) (omega arith), first, third, last) refl

pub length_four : (n : ℕ) → 10000 ≤ n → n < 2 ^ 64 → length (decimal n) ≡ length (decimal (n / 10000)) + 4
length_four n low high =
    let first : n / 100 / 100 ≡ n / 10000 = omega arith in
    omega (arith, length_pair n (omega arith) high, length_pair (n / 100) (omega arith) (omega arith), ap (λ (k : ℕ). length (decimal k)) first)
