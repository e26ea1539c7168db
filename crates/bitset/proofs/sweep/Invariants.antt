use Rattle.std.proofs.Common.{◌≡◌, ℕ, ◌+◌, ◌-◌, ◌<◌, ◌≤◌, Bool, false, length, slice_index_or}
use Rattle.bitset.specs.Sets.{those}
use Rattle.bitset.proofs.sweep.Given as goal

-- the flags from q on are taken, moved down by q, and are no; those below are as they were
abbrev pub invariant-loop-q : goal.invariant-loop-q
invariant-loop-q l = record {
  set : l.set ≡ those (λ i. slice_index_or l.fn.flags (l.q + i) false) (length l.fn.flags - l.q);
  size : length l.flags ≡ length l.fn.flags;
  place : l.q ≤ length l.fn.flags;
  below : (i : ℕ) → i < l.q → slice_index_or l.flags i false ≡ slice_index_or l.fn.flags i false;
  above : (i : ℕ) (d : Bool) → l.q ≤ i → i < length l.fn.flags → slice_index_or l.flags i d ≡ false;
}

abbrev pub decreases-loop-q : goal.decreases-loop-q
decreases-loop-q l = l.q

-- the same, one at a time
abbrev pub invariant-loop-q-2 : goal.invariant-loop-q-2
invariant-loop-q-2 l = record {
  set : l.set ≡ those (λ i. slice_index_or l.fn.flags (l.q + i) false) (length l.fn.flags - l.q);
  size : length l.flags ≡ length l.fn.flags;
  place : l.q ≤ length l.fn.flags;
  below : (i : ℕ) → i < l.q → slice_index_or l.flags i false ≡ slice_index_or l.fn.flags i false;
  above : (i : ℕ) (d : Bool) → l.q ≤ i → i < length l.fn.flags → slice_index_or l.flags i d ≡ false;
}

abbrev pub decreases-loop-q-2 : goal.decreases-loop-q-2
decreases-loop-q-2 l = l.q
