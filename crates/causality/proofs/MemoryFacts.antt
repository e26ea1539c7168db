-- Writing a row of a grid rewrites a row of the contents that the grid holds.
use Rattle.std.proofs.Common.{◌≡◌, ℕ, ◌+◌, ◌*◌, ◌<◌, ◌≤◌, List, length, get_or, set, sym, ap, ◌∙◌, refl, inl, inr, arith}
use Rattle.std.proofs.lemmas.Grind.{common_steps, get_or-set_at}
use Rattle.std.proofs.lemmas.List.{get_or-set_other}
use Rattle.grid.proofs.Promises.{row_within, other_row}
use Rattle.grid.specs.Rows.{RowIs}
use Rattle.history.specs.declared.messages.Post.{Post}
use Rattle.history.specs.Messages.{unsent}
use Rattle.history.specs.Board.{Contents}
use Rattle.history.specs.Rows.{put}
use Rattle.history.specs.declared.cells.Cell.{Cell}
use Rattle.history.proofs.Promises.{put_cases}
use Rattle.causality.specs.Boards.{Holds, SameFrom}

-- what lies beyond the rows stays
pub same_from : {X : Type 0} (n k t : ℕ) (d : X) {g : ℕ → X} {old new : List X} → RowIs n t d g old new → t < n + k → SameFrom d ((n + k) * n) old new
same_from n k t d w h = record { same_length = w.same_length; rest = λ i l. w.outside i (inr (omega (arith, row_within t (n + k) n h))) }

pub same_all : {X : Type 0} (d : X) (place : ℕ) (xs : List X) → SameFrom d place xs xs
same_all d place xs = record { same_length = refl; rest = λ i l. refl }

module _ {V X : Type 0} (part : Cell V → X) (d : X) (n k : ℕ) {old new : List X} (s : Contents V) (h : Holds part d n k old s) (posts : ℕ → Post) where
  -- a unit's row
  pub holds_unit : (t : ℕ) (f : ℕ → Cell V) → t < n → RowIs n t d (λ j. part (f j)) old new
      → Holds part d n k new (record { rows = put s.rows t f; message_rows = s.message_rows; posts = posts })
  holds_unit t f l w = record {
    rows = λ u j hu hj. elim (put_cases s.rows t f u) [
      | inl (e, p) ↦ ap (λ (r : ℕ). get_or new (r * n + j) d) e ∙ w.here j hj ∙ ap (λ (g : ℕ → Cell V). part (g j)) (sym p)
      | inr (ne, p) ↦ other_row w u j ne hj ∙ h.rows u j hu hj ∙ ap (λ (g : ℕ → Cell V). part (g j)) (sym p)
    ];
    message_rows = λ m j hm hj. other_row w (n + m) j (λ e. omega arith) hj ∙ h.message_rows m j hm hj;
  }

  -- a message's row
  pub holds_message : (m : ℕ) (f : ℕ → Cell V) → RowIs n (n + m) d (λ j. part (f j)) old new
      → Holds part d n k new (record { rows = s.rows; message_rows = put s.message_rows m f; posts = posts })
  holds_message m f w = record {
    rows = λ u j hu hj. other_row w u j (λ e. omega arith) hj ∙ h.rows u j hu hj;
    message_rows = λ p j hp hj. elim (put_cases s.message_rows m f p) [
      | inl (e, q) ↦ ap (λ (r : ℕ). get_or new ((n + r) * n + j) d) e ∙ w.here j hj ∙ ap (λ (g : ℕ → Cell V). part (g j)) (sym q)
      | inr (ne, q) ↦ other_row w (n + p) j (λ e. ne (omega arith)) hj ∙ h.message_rows p j hp hj ∙ ap (λ (g : ℕ → Cell V). part (g j)) (sym q)
    ];
  }

-- the state of one message
module _ (k m : ℕ) (old new : List Post) (x : Post) (e : new ≡ set old m x) (hm : m < k) where
  pub post_set : (f : ℕ → Post) → k ≤ length old → ((p : ℕ) → p < k → get_or old p unsent ≡ f p) → (p : ℕ) → p < k → get_or new p unsent ≡ put f m x p
  post_set f long h p hp = rw e (elim (put_cases f m x p) [
    | inl (i, q) ↦ get_or-set_at old m p x unsent i (omega arith) ∙ sym q
    | inr (ne, q) ↦ get_or-set_other old m p x unsent ne ∙ h p hp ∙ sym q
  ])

  pub post_beyond : SameFrom unsent k old new
  post_beyond = rw e (record { same_length = grind (arith, common_steps); rest = λ i l. get_or-set_other old m i x unsent (λ q. omega arith) })
