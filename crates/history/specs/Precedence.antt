-- What the stamps of two marks say of their order.
use Rattle.std.specs.Prelude.{ℕ, if◌then◌else◌, ◌&&◌, List, length, None, Option, Result, ◌==◌, nat_le, nat_lt, slice_index}
use Rattle.history.specs.declared.precedence.Precedence.{Precedence}
use Rattle.history.specs.declared.precedence.Precedence.TheVariants.{Same, Precedes, Follows, Concurrent}
use Rattle.history.specs.declared.refusals.Refusal.{Refusal}
use Rattle.history.specs.declared.refusals.Refusal.TheVariants.{NoSuchUnit, StampLength}
use Rattle.history.specs.Events.{Events}
use Rattle.history.specs.HappenedBefore.{Before, Here}
use Rattle.history.specs.Refusals.{ask}
use Rattle.history.specs.Board.{answer_or_refusal}
use Rattle.history.specs.Limits.{most_units}

-- The number of each answer.
abbrev pub precedence_number : Precedence → ℕ
precedence_number Same = 0
precedence_number Precedes = 1
precedence_number Follows = 2
precedence_number Concurrent = 3

-- What each answer says of the marks at position i of unit u and at position j of unit v.
abbrev pub Ordered : Events → ℕ → ℕ → ℕ → ℕ → Precedence → Type 0
Ordered ev u i v j Same = Here u i v j
Ordered ev u i v j Precedes = Before ev u i v j
Ordered ev u i v j Follows = Before ev v j u i
Ordered ev u i v j Concurrent = (Here u i v j → ⊥) × (Before ev u i v j → ⊥) × (Before ev v j u i → ⊥)

-- The answer for the stamps p and q of marks of the units u and v.
abbrev pub stamp_order : (ℕ → ℕ) → (ℕ → ℕ) → ℕ → ℕ → Precedence
stamp_order p q u v =
    if u == v && p u == q u then Same
    else (if nat_le (p u) (q u) then Precedes
    else (if nat_le (q v) (p v) then Follows else Concurrent))

-- Are the stamps equally long, from 1 to the most units that a board has? Are both units below that length?
abbrev pub compare_refusal : List ℕ → List ℕ → ℕ → ℕ → Option Refusal
compare_refusal p q u v =
    ask (length p == length q && (nat_le 1 (length p) && nat_le (length p) most_units)) StampLength
    (ask (nat_lt u (length p) && nat_lt v (length p)) NoSuchUnit None)

-- The answer of a comparison, or why it is refused.
abbrev pub compare_answer : List ℕ → List ℕ → ℕ → ℕ → Result Precedence Refusal
compare_answer p q u v =
    answer_or_refusal (compare_refusal p q u v) (stamp_order (λ w. slice_index p w) (λ w. slice_index q w) u v)
