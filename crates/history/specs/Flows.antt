-- Longest flows and their words.
use Rattle.std.specs.Prelude.{◌≡◌, ℕ, List, [], ◌∷◌, map, Some, None, Option}
use Rattle.history.specs.Events.{Events, Position}
use Rattle.history.specs.declared.calls.Event.TheVariants.{Mark, Receive, Send}
use Rattle.history.specs.declared.calls.Event.{Event}
use Rattle.history.specs.HappenedBefore.{Immediate, First}
use Rattle.history.specs.Words.{Letter, Word, letter_of}

-- the list begins with a mark that has no mark before it
abbrev pub Opens : Events → List Position → Type 0
Opens ev [] = ⊥
Opens ev (x ∷ f) = First ev x.0 x.1

-- its neighbours are each immediate predecessor and successor
abbrev pub Linked : Events → List Position → Type 0
Linked ev [] = Unit {0}
Linked ev (x ∷ []) = Unit {0}
Linked ev (x ∷ (y ∷ f)) = Immediate ev x.0 x.1 y.0 y.1 × Linked ev (y ∷ f)

-- it ends with position i of unit u
abbrev pub EndsAt : ℕ → ℕ → List Position → Type 0
EndsAt u i [] = ⊥
EndsAt u i (x ∷ []) = x ≡ (u, i)
EndsAt u i (x ∷ (y ∷ f)) = EndsAt u i (y ∷ f)

-- A longest flow ending at the mark at position i of unit u: a list of marks whose first has no mark before it, whose last is that
-- mark, and whose neighbours are each immediate predecessor and successor. Longest: nothing can be put before it or between. One mark can have
-- longest flows of several lengths.
abbrev pub Longest : Events → ℕ → ℕ → List Position → Type 0
Longest ev u i f = Opens ev f × Linked ev f × EndsAt u i f

-- the letter of what unit u did: of a mark its own, of anything else 0, which no flow meets
abbrev pub letter : ℕ → Option Event → Letter
letter u None = letter_of u 0
letter u (Some (Send m)) = letter_of u 0
letter u (Some (Receive m)) = letter_of u 0
letter u (Some (Mark l)) = letter_of u l

-- the letter of what stands at a position
abbrev pub letter_at : Events → Position → Letter
letter_at ev x = letter x.0 (ev x.0 x.1)

-- The word of a flow is the list of its marks' letters.
abbrev pub word : Events → List Position → Word
word ev f = map (letter_at ev) f
