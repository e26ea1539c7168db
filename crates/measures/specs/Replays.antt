-- Lists of calls handed to a board just made.
use Rattle.std.specs.Prelude.{◌≡◌, ℕ, List, Some, None, Err, Result, MatchResult, take, length, min}
use Rattle.history.specs.declared.calls.Answer.{Answer}
use Rattle.history.specs.declared.calls.Call.{Call}
use Rattle.history.specs.declared.refusals.Refusal.{Refusal}
use Rattle.history.specs.declared.refusals.Refusal.TheVariants.{MemoryTooShort}
use Rattle.causality.specs.Boards.{Memory, SameFrom, SameBeyond, has_room, make_refusal}
use Rattle.measures.specs.Measures.{Meaning}
use Rattle.measures.specs.Boards.{Played}

module _ {V : Type 0} (m : Meaning V) (n k : ℕ) (cs : List Call) where
  -- What a replay of a list of calls owes, on a board of n units and k messages that it has made: as many calls as there are places for
  -- answers were handed to it, in order, each with its answer in its place; and what is not the board's is as it was.
  pub record Replayed (count : ℕ) (old new : Memory V) (before after : List (Result (Answer V) Refusal)) : Type 0 where
    pub count_is : count ≡ min (length cs) (length before)
    pub played : Played m n k (take count cs) (take count after) new
    pub beyond : SameBeyond m.start n k old new
    pub rest : SameFrom (Err MemoryTooShort) count before after

  -- What a replay answers: the number of calls that were handed over, or why no board was made; then nothing has changed.
  abbrev pub ReplayAnswer : Memory V → Memory V → List (Result (Answer V) Refusal) → List (Result (Answer V) Refusal)
      → Result ℕ Refusal → Type 0
  ReplayAnswer old new before after r =
      let refusal = make_refusal n k (has_room n k old) in
      MatchResult r (λ count. (refusal ≡ None) × Replayed count old new before after)
      (λ e. (refusal ≡ Some e) × (new ≡ old) × (after ≡ before))
