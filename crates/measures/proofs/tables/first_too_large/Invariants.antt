use Rattle.std.proofs.Common.{ℕ, ◌<◌, get_or}
use Rattle.measures.proofs.tables.first_too_large.Given as goal

-- the entries passed so far are below the bound
abbrev pub invariant-loop-i : goal.invariant-loop-i
invariant-loop-i l = (k : ℕ) → k < l.i → get_or l.table k 0 < l.bound
