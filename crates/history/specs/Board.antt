-- The board: what each call is asked, answers and changes, and runs of any list of calls.
use Rattle.std.specs.Prelude.{ℕ, List, [], ◌∷◌, Some, None, Ok, Err, Option, Result, nat_lt}
use Rattle.bitset.specs.Sets.{those}
use Rattle.std.specs.Result.{result_err, result_unwrap_or}
use Rattle.history.specs.declared.messages.Post.{Post}
use Rattle.history.specs.declared.messages.Post.TheVariants.{Unsent}
use Rattle.history.specs.declared.messages.Handling.TheVariants.{Sending, Receiving}
use Rattle.history.specs.declared.refusals.Refusal.{Refusal}
use Rattle.history.specs.declared.refusals.Refusal.TheVariants.{NoSuchUnit, NoSuchMessage, NoSuchLabel, ClockFull}
use Rattle.history.specs.Events.{Logs}
use Rattle.history.specs.declared.calls.Event.TheVariants.{Mark, Receive, Send}
use Rattle.history.specs.declared.calls.Event.{Event}
use Rattle.history.specs.declared.calls.Answer.{Answer}
use Rattle.history.specs.declared.calls.Answer.TheVariants.{Sent, Received, Marked}
use Rattle.history.specs.Messages.{post_after}
use Rattle.history.specs.Refusals.{ask}
use Rattle.history.specs.Rows.{Payload, put, new_row, merge_row, mark_row}
use Rattle.history.specs.declared.cells.Cell.{Cell}
use Rattle.history.specs.Runs.{Size, silence, with_entry}
use Rattle.history.specs.declared.calls.Call.{Call}

-- What a board shows: the row of each unit, the row of each message, and what became of each message.
pub record Contents (V : Type 0) : Type 0 where
  pub rows : ℕ → ℕ → Cell V
  pub message_rows : ℕ → ℕ → Cell V
  pub posts : ℕ → Post

-- what an accepted mark is answered
abbrev pub mark_answer : {V : Type 0} → ℕ → ℕ → V → Answer V
mark_answer clock predecessors value = Marked (record { clock = clock; predecessors = predecessors; value = value })

-- an answer with another value in place of a mark's
abbrev pub answer_map : {V W : Type 0} → (V → W) → Answer V → Answer W
answer_map f (Sent clock) = Sent clock
answer_map f (Received clock) = Received clock
answer_map f (Marked m) = mark_answer m.clock m.predecessors (f m.value)

-- the answer to an accepted call, and the unit's clocks just after it
pub record Reply (V : Type 0) : Type 0 where
  pub answer : Answer V
  pub stamp : ℕ → ℕ

-- The contents after some calls, each unit's accepted events, and the replies to these.
pub record History (V : Type 0) : Type 0 where
  pub contents : Contents V
  pub log : Logs
  pub replies : ℕ → List (Reply V)

-- what an accepted call leaves, or what was there
abbrev pub if_taken : {X : Type 0} → Option Refusal → X → X → X
if_taken None new old = new
if_taken (Some e) new old = old

-- the answer, or the refusal
abbrev pub answer_or_refusal : {X : Type 0} → Option Refusal → X → Result X Refusal
answer_or_refusal None x = Ok x
answer_or_refusal (Some e) x = Err e

module _ {V : Type 0} (M : Payload V) where
  -- A new board: new rows, and no message sent.
  abbrev pub new_contents : Contents V
  new_contents = record { rows = λ u. new_row M.start; message_rows = λ m. new_row M.start; posts = λ m. Unsent }

  -- A new board, and nothing done.
  abbrev pub new_history : History V
  new_history = record { contents = new_contents; log = silence; replies = silence }

  module _ (z : Size) where
    -- The questions of each call in their order; the first no gives the refusal.
    abbrev pub refusal : Contents V → ℕ → Event → Option Refusal
    refusal s u (Send m) =
        ask (nat_lt u z.units) NoSuchUnit
        (ask (nat_lt m z.messages) NoSuchMessage (result_err (post_after (s.posts m) Sending)))
    refusal s u (Receive m) =
        ask (nat_lt u z.units) NoSuchUnit
        (ask (nat_lt m z.messages) NoSuchMessage (result_err (post_after (s.posts m) Receiving)))
    refusal s u (Mark l) =
        ask (nat_lt u z.units) NoSuchUnit
        (ask (z.fits u l) NoSuchLabel (ask (nat_lt (s.rows u u).clock z.limit) ClockFull None))

    -- The contents after an accepted call: a send copies the unit's row to the message's, a receipt merges the message's row into
    -- the unit's, a mark rewrites the unit's row.
    abbrev pub contents_after : Contents V → ℕ → Event → Contents V
    contents_after s u (Send m) = record {
      rows = s.rows;
      message_rows = put s.message_rows m (s.rows u);
      posts = put s.posts m (result_unwrap_or (post_after (s.posts m) Sending) (s.posts m));
    }
    contents_after s u (Receive m) = record {
      rows = put s.rows u (merge_row M.start (s.rows u) (s.message_rows m));
      message_rows = s.message_rows;
      posts = put s.posts m (result_unwrap_or (post_after (s.posts m) Receiving) (s.posts m));
    }
    contents_after s u (Mark l) = record {
      rows = put s.rows u (mark_row M u l (s.rows u));
      message_rows = s.message_rows;
      posts = s.posts;
    }

    -- The answer to an accepted call, from the unit's row before it and after it.
    abbrev pub answer_to : ℕ → Event → (ℕ → Cell V) → (ℕ → Cell V) → Answer V
    answer_to u (Send m) before after = Sent (after u).clock
    answer_to u (Receive m) before after = Received (after u).clock
    answer_to u (Mark l) before after = mark_answer (after u).clock (those (λ j. (before j).flag) z.units) (after u).value

    -- the reply to an accepted call
    abbrev pub reply : ℕ → Event → (ℕ → Cell V) → (ℕ → Cell V) → Reply V
    reply u e before after = record { answer = answer_to u e before after; stamp = λ v. (after v).clock }

    -- The contents after a call, taken or refused: a refused call changes nothing.
    abbrev pub next_contents : Contents V → Call → Contents V
    next_contents s c = if_taken (refusal s c.unit c.event) (contents_after s c.unit c.event) s

    -- The answer to a call, or its refusal.
    abbrev pub outcome : Contents V → Call → Result (Answer V) Refusal
    outcome s c =
        answer_or_refusal (refusal s c.unit c.event)
        (answer_to c.unit c.event (s.rows c.unit) ((contents_after s c.unit c.event).rows c.unit))

    -- What each call of a list is answered, or why it is refused, from some contents on.
    abbrev pub outcomes_from : Contents V → List Call → List (Result (Answer V) Refusal)
    outcomes_from s [] = []
    outcomes_from s (c ∷ cs) = outcome s c ∷ outcomes_from (next_contents s c) cs

    -- the contents after a list of calls, taken or refused, from some contents on
    abbrev pub contents_from : Contents V → List Call → Contents V
    contents_from s [] = s
    contents_from s (c ∷ cs) = contents_from (next_contents s c) cs

    -- the outcomes of a list of calls handed to a new board
    abbrev pub outcomes : List Call → List (Result (Answer V) Refusal)
    outcomes cs = outcomes_from new_contents cs

    -- the history after one more call
    abbrev pub history_after : History V → Call → History V
    history_after h c = record {
      contents = next_contents h.contents c;
      log = if_taken (refusal h.contents c.unit c.event) (with_entry h.log c.unit c.event) h.log;
      replies = if_taken (refusal h.contents c.unit c.event)
          (with_entry h.replies c.unit
          (reply c.unit c.event (h.contents.rows c.unit) ((contents_after h.contents c.unit c.event).rows c.unit)))
          h.replies;
    }

    -- the history after a list of calls more
    abbrev pub run_from : History V → List Call → History V
    run_from h [] = h
    run_from h (c ∷ cs) = run_from (history_after h c) cs

    -- A run of a list of calls, in the order handed in, from a new board.
    abbrev pub run : List Call → History V
    run cs = run_from new_history cs

    -- the calls of a list that are accepted after a history
    abbrev pub accepted_calls_from : History V → List Call → List Call
    accepted_calls_from h [] = []
    accepted_calls_from h (c ∷ cs) =
        if_taken (refusal h.contents c.unit c.event)
        (c ∷ accepted_calls_from (history_after h c) cs)
        (accepted_calls_from (history_after h c) cs)

    -- the calls of a list that are accepted
    abbrev pub accepted_calls : List Call → List Call
    accepted_calls cs = accepted_calls_from new_history cs
