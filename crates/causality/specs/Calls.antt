-- What the questions of a call tell, what is refused, and what a making answers and owes.
use Rattle.std.specs.Prelude.{◌≡◌, ◌<◌, ◌≤◌, ℕ, ◌+◌, ◌*◌, Bool, true, length, Some, None, Ok, Err, Result, MatchResult, slice_index}
use Rattle.grid.specs.declared.Grid.{Grid}
use Rattle.history.specs.declared.calls.Call.{Call}
use Rattle.history.specs.declared.calls.Event.{Event}
use Rattle.history.specs.declared.calls.Event.TheVariants.{Send, Receive}
use Rattle.history.specs.declared.messages.Handling.{Handling}
use Rattle.history.specs.declared.messages.Handling.TheVariants.{Sending, Receiving}
use Rattle.history.specs.declared.refusals.Refusal.{Refusal}
use Rattle.history.specs.Limits.{most_marks}
use Rattle.causality.specs.declared.boards.Board.{Board}
use Rattle.causality.specs.declared.payloads.Payload.{Ghosts}
use Rattle.causality.specs.Boards.{Setup, Memory, Makes, Obeys, SameLoans, has_room, make_refusal}
use Rattle.causality.specs.Payloads.{payload_on}

-- a grid is as wide as a board of n units and k messages, and has all its rows
pub record Room {X : Type 0} (n k : ℕ) (g : Grid X) : Type 0 where
  pub width : g.width ≡ n
  pub cells : (n + k) * n ≤ length g.cells.now

-- What is known once a call has asked for its memory and its unit: the memory is long enough for a board of n units and k messages, and unit u is
-- one of its units.
pub record Ready {V : Type 0} (n k : ℕ) (a : Memory V) (u : ℕ) : Type 0 where
  pub room : has_room n k a ≡ true
  pub clocks : Room n k a.clocks
  pub flags : Room n k a.flags
  pub values : Room n k a.values
  pub posts : k ≤ length a.posts
  pub unit : u < n

-- unit u's own clock, in a memory with rows of n cells
abbrev pub own_clock_in : {V : Type 0} → ℕ → Memory V → ℕ → ℕ
own_clock_in n a u = slice_index a.clocks.cells.now (u * n + u)

-- What is known once a mark has asked all of its questions: that unit u may use label l, and that its own clock is below the limit.
pub record MayMark {V : Type 0} (b : Setup V) (a : Memory V) (u l : ℕ) : Type 0 where
  pub ready : Ready b.units b.messages a u
  pub label : b.rules.fits u l ≡ true
  pub below : own_clock_in b.units a u < most_marks

-- A call is refused for e: with e as its answer and the memory as it was, it obeys the rules.
abbrev pub IsRefused : {V : Type 0} → Setup V → Memory V → Call → Refusal → Type 0
IsRefused b a c e = Obeys b c a a (Err e)

-- what is done to a message
abbrev pub handling_event : Handling → ℕ → Event
handling_event Sending m = Send m
handling_event Receiving m = Receive m

-- a result whose answer is one case of a longer list of cases, or the same refusal
abbrev pub result_as : {X Y : Type 0} → (X → Y) → Result X Refusal → Result Y Refusal
result_as case (Ok x) = Ok (case x)
result_as case (Err e) = Err e

-- What the making of a board of that setup owes to the memory.
pub record Begins {V : Type 0} (b : Setup V) (old new : Memory V) : Type 0 where
  pub makes : Makes (payload_on b.rules b.units) b.units b.messages
      (make_refusal b.units b.messages (has_room b.units b.messages old)) old new
  pub loans : SameLoans old new

module _ {P V : Type 0} {G : Ghosts P V} where
  -- The board has this payload, n units and k messages.
  pub record IsBoard (payload : P) (n k : ℕ) (b : Board P V G) : Type 0 where
    pub payload_is : b.payload ≡ payload
    pub units_are : b.units ≡ n
    pub messages_are : b.messages ≡ k

  -- What the making of a board answers: that board, or the refusal by the first question whose answer is no.
  abbrev pub MakeAnswer : P → ℕ → ℕ → Bool → Result (Board P V G) Refusal → Type 0
  MakeAnswer payload n k room r =
      MatchResult r
      (λ b. (make_refusal n k room ≡ None) × IsBoard payload n k b)
      (λ e. make_refusal n k room ≡ Some e)
