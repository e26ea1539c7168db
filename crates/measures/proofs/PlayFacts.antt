-- Calls handed to a board one after another.
use Rattle.std.proofs.Common.{◌≡◌, ℕ, ◌+◌, ◌*◌, ◌<◌, Bool, true, ◌&&◌, List, length, set, nat_le, ◌==◌, ap, ap₂, ◌∙◌, arith}
use Rattle.std.proofs.lemmas.Grind.{common_steps}
use Rattle.std.proofs.lemmas.List.{get_or-set_other}
use Rattle.grid.specs.declared.Grid.{Grid}
use Rattle.grid.specs.Grids.{SameLoan}
use Rattle.causality.specs.Boards.{Memory, SameFrom, SameBeyond, has_all_rows, SameLoans, has_room}

-- what was left alone twice was left alone
from_twice : {X : Type 0} {other : X} {place : ℕ} {a b c : List X} → SameFrom other place a b → SameFrom other place b c → SameFrom other place a c
from_twice p q = record { same_length = q.same_length ∙ p.same_length; rest = λ i h. q.rest i h ∙ p.rest i h }

pub beyond_twice : {V : Type 0} {start : V} {n k : ℕ} {a b c : Memory V} → SameBeyond start n k a b → SameBeyond start n k b c → SameBeyond start n k a c
beyond_twice p q = record {
  clocks = from_twice p.clocks q.clocks;
  flags = from_twice p.flags q.flags;
  values = from_twice p.values q.values;
  posts = from_twice p.posts q.posts;
}

-- a place below `place` was set
pub set_below : {X : Type 0} (other : X) (place i : ℕ) (a b c : List X) (x : X) → i < place → SameFrom other place a b → c ≡ set b i x → SameFrom other place a c
set_below other place i a b c x h p e =
    from_twice p (rw e (record { same_length = grind (arith, common_steps); rest = λ j l. get_or-set_other b i j x other (λ q. omega arith) }))

memory_twice : {X : Type 0} {a b c : Grid X} → SameLoan a b → SameLoan b c → SameLoan a c
memory_twice p q = record { width = q.width ∙ p.width; lender = q.lender ∙ p.lender }

-- a grid that is as wide and as long as before fits as before
fits_kept : {X : Type 0} (n k : ℕ) (g h : Grid X) → SameLoan g h → length h.cells.now ≡ length g.cells.now → has_all_rows n k h ≡ has_all_rows n k g
fits_kept n k g h m e = ap₂ (λ (w len : ℕ). w == n && nat_le ((n + k) * n) len) m.width e

-- so no call of a board changes whether there is room
pub room_kept : {V : Type 0} (start : V) (n k : ℕ) (old new : Memory V) → SameLoans old new → SameBeyond start n k old new → has_room n k old ≡ true → has_room n k new ≡ true
room_kept start n k old new l b room =
    ap₂ (λ (x : Bool) (y : Bool). x && y) (fits_kept n k old.clocks new.clocks l.clocks b.clocks.same_length)
    (ap₂ (λ (x : Bool) (y : Bool). x && y) (fits_kept n k old.flags new.flags l.flags b.flags.same_length)
    (ap₂ (λ (x : Bool) (y : Bool). x && y) (fits_kept n k old.values new.values l.values b.values.same_length) (ap (nat_le k) b.posts.same_length)))
    ∙ room

pub loans_twice : {V : Type 0} {a b c : Memory V} → SameLoans a b → SameLoans b c → SameLoans a c
loans_twice p q = record { clocks = memory_twice p.clocks q.clocks; flags = memory_twice p.flags q.flags; values = memory_twice p.values q.values }
