-- Automata given by a table of next states, and sets of their states.
use Rattle.std.specs.Prelude.{◌≡◌, ℕ, zero, suc, ◌+◌, ◌*◌, ◌^◌, ◌<◌, if◌then◌else◌, List, [], ◌∷◌, bit_or, nat_lt, slice_index}
use Rattle.bitset.specs.Sets.{Member, has}
use Rattle.measures.specs.Words.{Letter, Word}
use Rattle.measures.specs.Measures.{Meaning}

-- the next state of q under l: the table has a row for each state, with a column for each of the labels
abbrev pub next : ℕ → List ℕ → Letter → ℕ → ℕ
next labels table l q = slice_index table (q * labels + l)

-- the state to which a word leads from q
abbrev pub leads : (Letter → ℕ → ℕ) → ℕ → Word → ℕ
leads delta q [] = q
leads delta q (l ∷ w) = leads delta (delta l q) w

-- where the members of a set that are below n go under f
abbrev pub image : (ℕ → ℕ) → ℕ → ℕ → ℕ
image f zero set = 0
image f (suc n) set = if has set n then bit_or (image f n set) (2 ^ f n) else image f n set

-- r holds exactly the numbers to which f takes a member of the set below n
pub record Image (f : ℕ → ℕ) (n set r : ℕ) : Type 0 where
  pub into : (p : ℕ) → p < n → Member p set → Member (f p) r
  pub from : (q : ℕ) → Member q r → (p : ℕ) × (p < n) × Member p set × (f p ≡ q)

-- The measure of a pattern: the set of states to which the words lead.
abbrev pub state_sets : ℕ → ℕ → ℕ → List ℕ → Meaning ℕ
state_sets states labels start table = record {
  labels = labels;
  start = 2 ^ start;
  step = λ set l. if nat_lt l labels then image (next labels table l) states set else set;
  join = bit_or;
}
