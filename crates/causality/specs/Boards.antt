-- Boards in memory that the caller lends: what a memory shows, and what each call on a board owes.
use Rattle.std.specs.Prelude.{◌≡◌, ℕ, ◌+◌, ◌*◌, ◌<◌, ◌≤◌, Bool, false, ◌&&◌, List, length, if◌then◌else◌, Some, None, Ok, Err, Option, Result, ◌==◌, nat_le, nat_lt, slice_index_or}
use Rattle.grid.specs.declared.Grid.{Grid}
use Rattle.grid.specs.Grids.{SameLoan}
use Rattle.history.specs.declared.calls.Answer.{Answer}
use Rattle.history.specs.declared.calls.Call.{Call}
use Rattle.history.specs.declared.cells.Cell.{Cell}
use Rattle.history.specs.declared.messages.Post.{Post}
use Rattle.history.specs.declared.refusals.Refusal.{Refusal}
use Rattle.history.specs.declared.refusals.Refusal.TheVariants.{UnitCount, MessageCount, MemoryTooShort, NoSuchMessage}
use Rattle.history.specs.Counting.{count_below}
use Rattle.history.specs.Messages.{unsent, is_on_its_way}
use Rattle.history.specs.Refusals.{ask}
use Rattle.history.specs.Rows.{Payload}
use Rattle.history.specs.Limits.{most_units, most_messages}
use Rattle.history.specs.Runs.{Size}
use Rattle.history.specs.Board.{Contents, new_contents, next_contents, outcome}
use Rattle.causality.specs.declared.boards.Board.{Board}
use Rattle.causality.specs.declared.payloads.Payload.{Ghosts}
use Rattle.causality.specs.Payloads.{PayloadRules, payload_on, size_on}

-- What a board is made with, as the rules speak of it: what its cells carry, and how many units and messages it has.
pub record Setup (V : Type 0) : Type 0 where
  pub rules : PayloadRules V
  pub units : ℕ
  pub messages : ℕ

-- the setup of a board that was made with this payload, n units and k messages
abbrev pub setup : {V : Type 0} → PayloadRules V → ℕ → ℕ → Setup V
setup rules n k = record { rules = rules; units = n; messages = k }

module _ {P V : Type 0} {G : Ghosts P V} where
  -- the setup of a board
  abbrev pub setup_of : Board P V G → Setup V
  setup_of b = setup (G.rules b.payload) b.units b.messages

  -- what a board's cells carry, as its maker handed it in
  abbrev pub payload_of : Board P V G → P
  payload_of b = b.payload

-- The memory that the caller lends to each call on a board: three grids, of clocks, flags and values, each with its width, and the states of the
-- messages.
pub record Memory (V : Type 0) : Type 0 where
  pub clocks : Grid ℕ
  pub flags : Grid Bool
  pub values : Grid V
  pub posts : List Post

-- these four lent together
abbrev pub memory : {V : Type 0} → Grid ℕ → Grid Bool → Grid V → List Post → Memory V
memory clocks flags values posts = record { clocks = clocks; flags = flags; values = values; posts = posts }

-- whether a grid is as wide as a board of n units, and has all of its n + k rows
abbrev pub has_all_rows : {X : Type 0} → ℕ → ℕ → Grid X → Bool
has_all_rows n k grid = grid.width == n && nat_le ((n + k) * n) (length grid.cells.now)

-- whether the memory is long enough for a board of n units and k messages: the first question of each call
abbrev pub has_room : {V : Type 0} → ℕ → ℕ → Memory V → Bool
has_room n k a =
    has_all_rows n k a.clocks && (has_all_rows n k a.flags && (has_all_rows n k a.values && nat_le k (length a.posts)))

-- Each grid is as wide as before, and lent by the same lender.
pub record SameLoans {V : Type 0} (old new : Memory V) : Type 0 where
  pub clocks : SameLoan old.clocks new.clocks
  pub flags : SameLoan old.flags new.flags
  pub values : SameLoan old.values new.values

-- One grid of a board of n units and k messages holds one part of each cell: cell j of unit u's row at u * n + j, and of message m's at
-- (n + m) * n + j.
pub record Holds {V X : Type 0} (part : Cell V → X) (other : X) (n k : ℕ) (xs : List X)
    (s : Contents V) : Type 0 where
  pub rows : (u j : ℕ) → u < n → j < n → slice_index_or xs (u * n + j) other ≡ part (s.rows u j)
  pub message_rows : (m j : ℕ) → m < k → j < n
      → slice_index_or xs ((n + m) * n + j) other ≡ part (s.message_rows m j)

-- The memory shows these contents of a board: each of the n + k rows, and what became of each of the k messages. Of memory beyond them it says nothing.
pub record Shows {V : Type 0} (start : V) (n k : ℕ) (memory : Memory V) (s : Contents V) : Type 0 where
  pub clocks : Holds (λ (c : Cell V). c.clock) 0 n k memory.clocks.cells.now s
  pub flags : Holds (λ (c : Cell V). c.flag) false n k memory.flags.cells.now s
  pub values : Holds (λ (c : Cell V). c.value) start n k memory.values.cells.now s
  pub posts : (m : ℕ) → m < k → slice_index_or memory.posts m unsent ≡ s.posts m

-- Every memory shows some contents: those whose rows and messages are read off it. So what is said of all contents that a memory shows is never idle.
abbrev pub EachShows : {V : Type 0} → V → ℕ → ℕ → Type 0
EachShows {V} start n k = (memory : Memory V) → (s : Contents V) × Shows start n k memory s

-- What stands from a place on is as it was.
pub record SameFrom {X : Type 0} (other : X) (place : ℕ) (old new : List X) : Type 0 where
  pub same_length : length new ≡ length old
  pub rest : (i : ℕ) → place ≤ i → slice_index_or new i other ≡ slice_index_or old i other

-- Every cell beyond the board's n + k rows is as it was, and so is every message state beyond the k places.
pub record SameBeyond {V : Type 0} (start : V) (n k : ℕ) (old new : Memory V) : Type 0 where
  pub clocks : SameFrom 0 ((n + k) * n) old.clocks.cells.now new.clocks.cells.now
  pub flags : SameFrom false ((n + k) * n) old.flags.cells.now new.flags.cells.now
  pub values : SameFrom start ((n + k) * n) old.values.cells.now new.values.cells.now
  pub posts : SameFrom unsent k old.posts new.posts

-- What a send, a receipt or a mark owes, whatever contents its memory shows: the answer or the refusal of the rules, and memory that shows the
-- contents after it. `room` says whether the memory is long enough, the first question of each call.
pub record FollowsRules {V : Type 0} (M : Payload V) (z : Size) (c : Call) (room : Bool) (old new : Memory V)
    (r : Result (Answer V) Refusal) : Type 0 where
  pub answer : (s : Contents V) → Shows M.start z.units z.messages old s
      → r ≡ (if room then outcome M z s c else Err MemoryTooShort)
  pub contents : (s : Contents V) → Shows M.start z.units z.messages old s
      → Shows M.start z.units z.messages new (if room then next_contents M z s c else s)
  pub beyond : SameBeyond M.start z.units z.messages old new
  pub refused : (e : Refusal) → r ≡ Err e → new ≡ old

-- What the making of a board owes: memory that shows a new board, or, where it is refused, the memory as it was.
pub record Makes {V : Type 0} (M : Payload V) (n k : ℕ) (refusal : Option Refusal) (old new : Memory V) : Type 0 where
  pub contents : refusal ≡ None → Shows M.start n k new (new_contents M)
  pub beyond : SameBeyond M.start n k old new
  pub refused : (e : Refusal) → refusal ≡ Some e → new ≡ old

-- What a send, a receipt or a mark owes on a board of that setup: it follows the rules, and lends back what it was lent.
pub record Obeys {V : Type 0} (b : Setup V) (c : Call) (old new : Memory V)
    (r : Result (Answer V) Refusal) : Type 0 where
  pub follows : FollowsRules (payload_on b.rules b.units) (size_on b.rules b.units b.messages) c
      (has_room b.units b.messages old) old new r
  pub loans : SameLoans old new

-- The questions that a making asks, in their order; the first no gives the refusal.
abbrev pub make_refusal : ℕ → ℕ → Bool → Option Refusal
make_refusal n k room =
    ask (nat_le 1 n && nat_le n most_units) UnitCount
    (ask (nat_le k most_messages) MessageCount
    (ask room MemoryTooShort None))

-- the state of message m, or the refusal
abbrev pub state_answer : ℕ → Bool → List Post → ℕ → Result Post Refusal
state_answer k room posts m =
    if room then (if nat_lt m k then Ok (slice_index_or posts m unsent) else Err NoSuchMessage)
    else Err MemoryTooShort

-- how many of the messages below k are on their way
abbrev pub left_among : (ℕ → Post) → ℕ → ℕ
left_among posts k = count_below (λ m. is_on_its_way (posts m)) k

-- their number, or the refusal
abbrev pub left_answer : ℕ → Bool → List Post → Result ℕ Refusal
left_answer k room posts = if room then Ok (left_among (λ m. slice_index_or posts m unsent) k) else Err MemoryTooShort
