-- Each event keeps what holds of a unit's row.
use Rattle.std.proofs.Common.{◌≡◌, ℕ, suc, ◌≤◌, Some, refl, inl, inr, ⊎_elim, arith}
use Rattle.std.proofs.lemmas.Bool.{cases_lt}
use Rattle.history.specs.Events.{Events}
use Rattle.history.specs.declared.calls.Event.TheVariants.{Receive, Send}
use Rattle.history.specs.Marks.{IsMark, marks}
use Rattle.history.specs.Rows.{Payload, merge_row, new_row}
use Rattle.history.specs.declared.cells.Cell.{Cell}
use Rattle.history.proofs.PastFacts.{Past, own, got, past_down, past_through, past_quiet}
use Rattle.history.proofs.MarkCountFacts.{marks_strict}
use Rattle.history.proofs.CellTruth.{Either, truthful_same, truthful_merge}
use Rattle.history.proofs.CoverFacts.{cover_same, cover_merge}
use Rattle.history.proofs.RowTruth.{Known, Once, Holds, known_closed, nothing, past_receive, send_same, receive_same}

module _ (ev : Events) where
  -- an event that is no receipt closes no circle
  pub quiet_apart : (u k : ℕ) → ((m : ℕ) → ev u k ≡ Some (Receive m) → ⊥) → (Past ev u k u k → ⊥) → Past ev u (suc k) u (suc k) → ⊥
  quiet_apart u k q a h = grind (arith, past_down, past_quiet)

  -- a receipt is not in the past of its send
  pub receive_after : (u k m w j : ℕ) → ev u k ≡ Some (Receive m) → ev w j ≡ Some (Send m) → (Past ev w j w j → ⊥) → Past ev u k w j → ⊥
  receive_after u k m w j e s a h = a (past_through ev (got k m w j (omega arith) e s (own refl (omega arith))) h)

  receive_apart : Once ev → (u k m w j : ℕ) → ev u k ≡ Some (Receive m) → ev w j ≡ Some (Send m) → (Past ev u k u k → ⊥) → (Past ev w j w j → ⊥) → Past ev u (suc k) u (suc k) → ⊥
  receive_apart once u k m w j e s a b h = ⊎_elim (⊎_elim (λ x. (let y = x.1 in omega arith)) (λ x. a (past_down ev k (omega arith) x))) from (past_receive ev once u k m w j e s h)
    where
      from : Past ev u (suc k) w (suc j) → ⊥
      from g = (let link : Past ev w j u (suc k) = got k m w j (omega arith) e s (own refl (omega arith)) in grind (arith, past_quiet, past_down, receive_after))

module _ {V : Type 0} (ev : Events) (M : Payload V) (W : ℕ → ℕ → V → Type 0) where
  pub holds_new : (u : ℕ) → Holds ev M.start W u 0 (new_row M.start)
  holds_new u = grind (arith, nothing)

  pub holds_send : (u k m : ℕ) (r : ℕ → Cell V) → ev u k ≡ Some (Send m) → Holds ev M.start W u k r → Holds ev M.start W u (suc k) r
  holds_send u k m r e h = record {
    cells = λ v. truthful_same ev M W (Known ev u k) (Known ev u (suc k)) (send_same ev u k m e) v (r v) (h.cells v);
    cover = cover_same ev (Known ev u k) (Known ev u (suc k)) (send_same ev u k m e) h.cover;
    mine = let i = h.mine in rw e (omega arith);
    apart = quiet_apart ev u k (λ m' x. cc) h.apart;
  }

  pub holds_receive : Once ev → (u k m w j : ℕ) (p q : ℕ → Cell V) → ev u k ≡ Some (Receive m) → ev w j ≡ Some (Send m) →
      Holds ev M.start W u k p → Holds ev M.start W w j q → Holds ev M.start W u (suc k) (merge_row M.start p q)
  holds_receive once u k m w j p q e s h g = record {
    cells = λ v. truthful_same ev M W (Either (Known ev u k) (Known ev w j)) (Known ev u (suc k)) (receive_same ev once u k m w j e s) v (merge_row M.start p q v)
        (truthful_merge ev M W (Known ev u k) (Known ev w j) v (p v) (q v) (known_closed ev u k) (known_closed ev w j) (h.cells v) (g.cells v));
    cover = cover_same ev (Either (Known ev u k) (Known ev w j)) (Known ev u (suc k)) (receive_same ev once u k m w j e s)
        (cover_merge ev M.start W (Known ev u k) (Known ev w j) p q (known_closed ev u k) (known_closed ev w j) h.cells g.cells h.cover g.cover);
    mine = let i = h.mine in let y = less in rw e (grind arith);
    apart = receive_apart ev once u k m w j e s h.apart g.apart;
  }
    where
      late : (x : ℕ) → IsMark ev u x → marks ev u x ≡ (p u).clock → Past ev u x w j → ⊥
      late x n c o = elim (cases_lt x k) [ inl b ↦ (let i = marks_strict ev u x k n b in let i' = h.mine in omega arith) | inr b ↦ receive_after ev u k m w j e s g.apart (past_down ev k b o) ]

      less : (q u).clock ≤ (p u).clock
      less = elim (cases_lt (p u).clock (q u).clock) [ inl b ↦ (let (x, n, c) = (g.cells u).there (p u).clock b in absurd (late x n c ((g.cells u).within x n (omega arith)))) | inr b ↦ b ]
