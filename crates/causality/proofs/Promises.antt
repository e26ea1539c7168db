-- The theorems of this crate that other crates may cite.
use Rattle.std.specs.Prelude.{ℕ}
use Rattle.causality.specs.Boards.{EachShows}
use Rattle.causality.proofs.LeftFacts

-- Each memory shows some contents to a board, whatever was written into it.
pub each_shows : {V : Type 0} (start : V) (n k : ℕ) → EachShows start n k
each_shows start n k = LeftFacts.each_shows start n k
