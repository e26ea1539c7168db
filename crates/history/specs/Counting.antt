-- Lists that hold exactly what has a property, and how many have it.
use Rattle.std.specs.Prelude.{◌≡◌, ℕ, zero, suc, ◌+◌, ◌⊎◌, Bool, if◌then◌else◌, List, [], ◌∷◌, length}

-- a is among the list
abbrev pub Among : {A : Type 0} → A → List A → Type 0
Among a [] = ⊥
Among a (b ∷ l) = (a ≡ b) ⊎ Among a l

-- nothing is in the list twice
abbrev pub Distinct : {A : Type 0} → List A → Type 0
Distinct [] = Unit {0}
Distinct (a ∷ l) = (Among a l → ⊥) × Distinct l

-- The list holds each thing of which P is true exactly once, and no other.
pub record Exactly {A : Type 0} (P : A → Type 0) (l : List A) : Type 0 where
  pub sound : (a : A) → Among a l → P a
  pub complete : (a : A) → P a → Among a l
  pub once : Distinct l

-- P is true of exactly n things.
abbrev pub HowMany : {A : Type 0} → (A → Type 0) → ℕ → Type 0
HowMany {A} P n = (l : List A) × Exactly P l × (length l ≡ n)

-- how many numbers below n pass the test
abbrev pub count_below : (ℕ → Bool) → ℕ → ℕ
count_below test zero = 0
count_below test (suc n) = count_below test n + (if test n then 1 else 0)
