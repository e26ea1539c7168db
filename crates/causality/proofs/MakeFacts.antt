-- The making of a board: the rows and message states that it has are new.
use Rattle.std.proofs.Common.{◌≡◌, ℕ, ◌+◌, ◌*◌, ◌<◌, ◌≤◌, Bool, true, false, List, ◌++◌, length, drop, replicate, None, Some, Option, get_or, ap, ◌∙◌, if◌then◌else◌, arith}
use Rattle.std.proofs.lemmas.Grind.{common_steps}
use Rattle.std.proofs.lemmas.Bool.Decides.{nat_tests}
use Rattle.std.proofs.lemmas.List.{places}
use Rattle.grid.specs.declared.Grid.{Grid}
use Rattle.grid.specs.Grids.{has_first_rows}
use Rattle.grid.proofs.Promises.{row_within}
use Rattle.history.specs.Messages.{unsent}
use Rattle.history.specs.declared.refusals.Refusal.{Refusal}
use Rattle.history.specs.Rows.{Payload}
use Rattle.history.specs.declared.cells.Cell.{Cell}
use Rattle.history.specs.Board.{new_contents}
use Rattle.causality.specs.Boards.{Memory, Holds, SameFrom, Makes, make_refusal, has_room}
use Rattle.causality.specs.Calls.{Room}
use Rattle.causality.specs.Payloads.{payload_on, PayloadRules}

-- no call is both taken and refused
pub not_both : {o : Option Refusal} {e : Refusal} → o ≡ None → o ≡ Some e → ⊥
not_both p q = cc

-- The first `count` places hold x, and every other one is as it was.
pub record Filled {X : Type 0} (count : ℕ) (x other : X) (old new : List X) : Type 0 where
  pub same_length : length new ≡ length old
  pub here : (i : ℕ) → i < count → get_or new i other ≡ x
  pub outside : (i : ℕ) → count ≤ i → get_or new i other ≡ get_or old i other

pub filled_front : {X : Type 0} (count : ℕ) (x other : X) (old new : List X) → count ≤ length old → new ≡ replicate count x ++ drop count old → Filled count x other old new
filled_front count x other old new h e = record {
  same_length = rw e (grind (arith, common_steps));
  here = λ i l. rw e (grind (arith, places, common_steps));
  outside = λ i l. rw e (grind (arith, places, common_steps));
}

-- all rows of a board, filled
pub filled_rows : {X : Type 0} {n k : ℕ} {g : Grid X} → Room n k g → (x other : X) (new : List X)
    → new ≡ (if has_first_rows g (n + k) then replicate ((n + k) * g.width) x ++ drop ((n + k) * g.width) g.cells.now else g.cells.now)
    → Filled ((n + k) * n) x other g.cells.now new
filled_rows {n = n} {k = k} {g = g} r x other new is =
    let there : has_first_rows g (n + k) ≡ true = (let w = r.width in let c = r.cells in grind (arith, nat_tests)) in
    filled_front ((n + k) * n) x other g.cells.now new r.cells (is ∙ rw there (ap (λ (w : ℕ). replicate ((n + k) * w) x ++ drop ((n + k) * w) g.cells.now) r.width))

module _ {V X : Type 0} (M : Payload V) (part : Cell V → X) (other : X) (n k : ℕ) {old new : List X} where
  -- they hold new rows
  pub holds_new : Filled ((n + k) * n) (part (record { clock = 0; flag = false; value = M.start })) other old new → Holds part other n k new (new_contents M)
  holds_new f = record {
    rows = λ u j hu hj. f.here (u * n + j) (omega (arith, row_within u (n + k) n (omega arith)));
    message_rows = λ m j hm hj. f.here ((n + m) * n + j) (omega (arith, row_within (n + m) (n + k) n (omega arith)));
  }

pub filled_beyond : {X : Type 0} {count : ℕ} {x other : X} {old new : List X} → Filled count x other old new → SameFrom other count old new
filled_beyond f = record { same_length = f.same_length; rest = f.outside }

-- A making that is taken, of grids and message states that were filled.
module _ {V : Type 0} (rules : PayloadRules V) (n k : ℕ) (old : Memory V) (new : Memory V) (taken : make_refusal n k (has_room n k old) ≡ None)
    (wc : Filled ((n + k) * n) 0 0 old.clocks.cells.now new.clocks.cells.now) (wf : Filled ((n + k) * n) false false old.flags.cells.now new.flags.cells.now)
    (wv : Filled ((n + k) * n) rules.start rules.start old.values.cells.now new.values.cells.now) (wp : Filled k unsent unsent old.posts new.posts) where
  pub made : Makes (payload_on rules n) n k (make_refusal n k (has_room n k old)) old new
  made = record {
    contents = λ x. record {
      clocks = holds_new (payload_on rules n) (λ c. c.clock) 0 n k wc;
      flags = holds_new (payload_on rules n) (λ c. c.flag) false n k wf;
      values = holds_new (payload_on rules n) (λ c. c.value) rules.start n k wv;
      posts = wp.here;
    };
    beyond = record { clocks = filled_beyond wc; flags = filled_beyond wf; values = filled_beyond wv; posts = filled_beyond wp };
    refused = λ e x. absurd (not_both taken x);
  }

pub make_taken : (n k : ℕ) (room : Bool) → make_refusal n k true ≡ None → room ≡ true → make_refusal n k room ≡ None
make_taken n k room e f = grind (arith, nat_tests)
