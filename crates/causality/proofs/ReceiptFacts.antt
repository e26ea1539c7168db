-- A receipt that is taken follows the rules: the unit's row becomes what it and the message's merge to, and no other.
use Rattle.std.proofs.Common.{◌≡◌, ℕ, ◌+◌, ◌*◌, ◌<◌, false, None, Ok, get_or, set, sym, refl, ap, ◌∙◌, ap₂, arith}
use Rattle.std.proofs.lemmas.Bool.Decides.{nat_tests}
use Rattle.grid.specs.declared.RowPair.{RowPair}
use Rattle.grid.specs.Rows.{RowIs}
use Rattle.grid.proofs.Promises.{row_same}
use Rattle.history.specs.declared.messages.Handling.TheVariants.{Receiving}
use Rattle.history.specs.declared.messages.Post.{Post}
use Rattle.history.specs.Messages.{unsent, post_after}
use Rattle.history.specs.declared.calls.Event.TheVariants.{Receive}
use Rattle.history.specs.declared.calls.Answer.TheVariants.{Received}
use Rattle.history.specs.Rows.{merged_cell, merge_row}
use Rattle.history.specs.declared.cells.Cell.{Cell}
use Rattle.history.specs.Board.{Contents, refusal, contents_after}
use Rattle.history.specs.Runs.{call}
use Rattle.causality.specs.Boards.{Memory, Shows, FollowsRules, has_room}
use Rattle.causality.specs.Calls.{Ready}
use Rattle.causality.specs.Payloads.{size_on, payload_on, PayloadRules}
use Rattle.causality.specs.Merging.{merged_row}
use Rattle.causality.proofs.FollowFacts.{taken_follows}
use Rattle.causality.proofs.MergeFacts.{cell_same}
use Rattle.causality.proofs.MemoryFacts.{same_from, holds_unit, post_set, post_beyond}

-- the rows of a receipt
abbrev pub rows : ℕ → ℕ → ℕ → RowPair
rows n u m = record { width = n; from = n + m; to = u }

-- A receipt into row u, by a board that has asked its questions.
module _ {V : Type 0} (rules : PayloadRules V) (n k u m : ℕ) (old : Memory V) (new : Memory V) (r : Ready n k old u) (hm : m < k) where
  -- what the rows merge to
  abbrev pub heard : ℕ → Cell V
  heard = merged_row rules.start old.clocks.cells.now old.flags.cells.now old.values.cells.now (rows n u m)

  module _ (post : Post) (own : ℕ) (was : post_after (get_or old.posts m unsent) Receiving ≡ Ok post)
      (wc : RowIs n u 0 (λ j. (heard j).clock) old.clocks.cells.now new.clocks.cells.now)
      (wf : RowIs n u false (λ j. (heard j).flag) old.flags.cells.now new.flags.cells.now)
      (wv : RowIs n u rules.start (λ j. (heard j).value) old.values.cells.now new.values.cells.now)
      (wp : new.posts ≡ set old.posts m post) (is : own ≡ get_or new.clocks.cells.now (u * n + u) 0) where
    module _ (s : Contents V) (sh : Shows rules.start n k old s) where
      not_refused : refusal (payload_on rules n) (size_on rules n k) s u (Receive m) ≡ None
      not_refused = let p = sh.posts m hm in let h = r.unit in grind (arith, nat_tests)

      merged_is : (j : ℕ) → j < n → heard j ≡ merge_row rules.start (s.rows u) (s.message_rows m) j
      merged_is j l =
          ap₂ (merged_cell rules.start)
          (cell_same (sh.clocks.rows u j r.unit l) (sh.flags.rows u j r.unit l) (sh.values.rows u j r.unit l))
          (cell_same (sh.clocks.message_rows m j hm l) (sh.flags.message_rows m j hm l) (sh.values.message_rows m j hm l))

      shown : Shows rules.start n k new (contents_after (payload_on rules n) (size_on rules n k) s u (Receive m))
      shown = record {
        clocks = holds_unit (λ c. c.clock) 0 n k s sh.clocks _ u _ r.unit (row_same wc _ (λ j l. ap (λ (c : Cell V). c.clock) (merged_is j l)));
        flags = holds_unit (λ c. c.flag) false n k s sh.flags _ u _ r.unit (row_same wf _ (λ j l. ap (λ (c : Cell V). c.flag) (merged_is j l)));
        values = holds_unit (λ c. c.value) rules.start n k s sh.values _ u _ r.unit (row_same wv _ (λ j l. ap (λ (c : Cell V). c.value) (merged_is j l)));
        posts = post_set k m old.posts new.posts _ (wp ∙ rw (sym (sh.posts m hm), was) refl) hm s.posts r.posts sh.posts;
      }

      own_is : own ≡ ((contents_after (payload_on rules n) (size_on rules n k) s u (Receive m)).rows u u).clock
      own_is = is ∙ shown.clocks.rows u u r.unit r.unit

    pub received : FollowsRules (payload_on rules n) (size_on rules n k) (call u (Receive m)) (has_room n k old) old new (Ok (Received own))
    received =
        rw r.room
        (taken_follows (payload_on rules n) (size_on rules n k) (call u (Receive m)) old new (Received own) not_refused shown (λ s sh. ap Received (own_is s sh))
        (record {
          clocks = same_from n k u 0 wc (omega (arith, r.unit));
          flags = same_from n k u false wf (omega (arith, r.unit));
          values = same_from n k u rules.start wv (omega (arith, r.unit));
          posts = post_beyond k m old.posts new.posts post wp hm;
        }))
