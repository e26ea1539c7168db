-- A send that is taken follows the rules: the message's row becomes the unit's, and no other.
use Rattle.std.proofs.Common.{◌≡◌, ℕ, ◌+◌, ◌*◌, ◌<◌, false, None, Ok, get_or, set, sym, refl, ap, ◌∙◌, arith}
use Rattle.std.proofs.lemmas.Bool.Decides.{nat_tests}
use Rattle.grid.specs.Rows.{RowIs}
use Rattle.grid.proofs.Promises.{other_row, row_same}
use Rattle.history.specs.declared.messages.Handling.TheVariants.{Sending}
use Rattle.history.specs.declared.messages.Post.{Post}
use Rattle.history.specs.Messages.{unsent, post_after}
use Rattle.history.specs.declared.calls.Event.TheVariants.{Send}
use Rattle.history.specs.declared.calls.Answer.TheVariants.{Sent}
use Rattle.history.specs.Board.{Contents, refusal, contents_after}
use Rattle.history.specs.Runs.{call}
use Rattle.causality.specs.Boards.{Memory, Shows, FollowsRules, has_room}
use Rattle.causality.specs.Calls.{Ready}
use Rattle.causality.specs.Payloads.{size_on, payload_on, PayloadRules}
use Rattle.causality.proofs.FollowFacts.{taken_follows}
use Rattle.causality.proofs.MemoryFacts.{same_from, holds_message, post_set, post_beyond}

-- A send to row n + m, by a board that has asked its questions.
module _ {V : Type 0} (rules : PayloadRules V) (n k u m : ℕ) (old : Memory V) (new : Memory V) (r : Ready n k old u) (hm : m < k) (post : Post) (own : ℕ)
    (was : post_after (get_or old.posts m unsent) Sending ≡ Ok post)
    (wc : RowIs n (n + m) 0 (λ j. get_or old.clocks.cells.now (u * n + j) 0) old.clocks.cells.now new.clocks.cells.now)
    (wf : RowIs n (n + m) false (λ j. get_or old.flags.cells.now (u * n + j) false) old.flags.cells.now new.flags.cells.now)
    (wv : RowIs n (n + m) rules.start (λ j. get_or old.values.cells.now (u * n + j) rules.start) old.values.cells.now new.values.cells.now)
    (wp : new.posts ≡ set old.posts m post) (is : own ≡ get_or new.clocks.cells.now (u * n + u) 0) where
  module _ (s : Contents V) (sh : Shows rules.start n k old s) where
    not_refused : refusal (payload_on rules n) (size_on rules n k) s u (Send m) ≡ None
    not_refused = let p = sh.posts m hm in let h = r.unit in grind (arith, nat_tests)

    shown : Shows rules.start n k new (contents_after (payload_on rules n) (size_on rules n k) s u (Send m))
    shown = record {
      clocks = holds_message (λ c. c.clock) 0 n k s sh.clocks _ m (s.rows u) (row_same wc _ (λ j l. sh.clocks.rows u j r.unit l));
      flags = holds_message (λ c. c.flag) false n k s sh.flags _ m (s.rows u) (row_same wf _ (λ j l. sh.flags.rows u j r.unit l));
      values = holds_message (λ c. c.value) rules.start n k s sh.values _ m (s.rows u) (row_same wv _ (λ j l. sh.values.rows u j r.unit l));
      posts = post_set k m old.posts new.posts _ (wp ∙ rw (sym (sh.posts m hm), was) refl) hm s.posts r.posts sh.posts;
    }

    own_is : own ≡ (s.rows u u).clock
    own_is = is ∙ other_row wc u u (λ e. omega (arith, r.unit)) r.unit ∙ sh.clocks.rows u u r.unit r.unit

  pub sent : FollowsRules (payload_on rules n) (size_on rules n k) (call u (Send m)) (has_room n k old) old new (Ok (Sent own))
  sent =
      rw r.room
      (taken_follows (payload_on rules n) (size_on rules n k) (call u (Send m)) old new (Sent own) not_refused shown (λ s sh. ap Sent (own_is s sh))
      (record {
        clocks = same_from n k (n + m) 0 wc (omega arith);
        flags = same_from n k (n + m) false wf (omega arith);
        values = same_from n k (n + m) rules.start wv (omega arith);
        posts = post_beyond k m old.posts new.posts post wp hm;
      }))
