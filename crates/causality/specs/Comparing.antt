-- What a comparison of two stamps says of their marks.
use Rattle.std.specs.Prelude.{◌≡◌, ℕ, ◌≤◌, ◌↔◌, List, length, Ok, Result, slice_index}
use Rattle.history.specs.declared.precedence.Precedence.{Precedence}
use Rattle.history.specs.declared.refusals.Refusal.{Refusal}
use Rattle.history.specs.Marks.{IsMark}
use Rattle.history.specs.Stamps.{Stamp}
use Rattle.history.specs.Precedence.{Ordered}
use Rattle.history.specs.Limits.{most_units}
use Rattle.history.specs.Runs.{Size, Run, events_in}
use Rattle.history.specs.declared.calls.Call.{Call}

-- Where p and q are the stamps of a mark of unit u and of a mark of unit v in any run of a board, the answer r is o exactly when
-- the marks stand so.
abbrev pub OrdersMarks : List ℕ → List ℕ → ℕ → ℕ → Result Precedence Refusal → Type 0
OrdersMarks p q u v r =
    (z : Size) (cs : List Call) → Run z cs → z.units ≤ most_units → length p ≡ z.units → length q ≡ z.units
    → (i j : ℕ) → IsMark (events_in cs) u i → IsMark (events_in cs) v j
    → Stamp (events_in cs) u i (λ w. slice_index p w) → Stamp (events_in cs) v j (λ w. slice_index q w)
    → (o : Precedence) → (r ≡ Ok o) ↔ Ordered (events_in cs) u i v j o
