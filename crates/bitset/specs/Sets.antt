-- Sets of numbers as the bits of a word.
use Rattle.std.specs.Prelude.{◌≡◌, ℕ, zero, suc, ◌/◌, ◌%◌, ◌^◌, ◌≤◌, Bool, false, ◌&&◌, if◌then◌else◌, not, ◌==◌, List, length, min, bit_and, bit_or, slice_index_or}

-- 1 where q is in the set, else 0
abbrev pub bit : ℕ → ℕ → ℕ
bit set q = set / 2 ^ q % 2

-- q is in the set
abbrev pub Member : ℕ → ℕ → Type 0
Member q set = bit set q ≡ 1

-- whether q is in the set
abbrev pub has : ℕ → ℕ → Bool
has set q = (bit set q) == 1

-- q is the lowest member of the set
abbrev pub Lowest : ℕ → ℕ → Type 0
Lowest q set = Member q set × ((p : ℕ) → Member p set → q ≤ p)

-- rest has the members of the set other than q
abbrev pub Without : ℕ → ℕ → ℕ → Type 0
Without q set rest = (p : ℕ) → has rest p ≡ (has set p && not (p == q))

-- whether some number is in both sets
abbrev pub meets : ℕ → ℕ → Bool
meets a b = not (bit_and a b == 0)

-- whether each number of a is in b
abbrev pub within : ℕ → ℕ → Bool
within a b = bit_and a b == a

-- the set of the numbers below n of which f is true
abbrev pub those : (ℕ → Bool) → ℕ → ℕ
those f zero = 0
those f (suc n) = if f n then bit_or (those f n) (2 ^ n) else those f n

-- the places, below 64, whose flag is yes
abbrev pub positions_in : List Bool → ℕ
positions_in flags = those (λ q. slice_index_or flags q false) (min (length flags) 64)
