-- Each accepted call keeps what a run keeps.
use Rattle.std.proofs.Common.{◌≡◌, ℕ, ◌<◌, true, length, Some, None, sym, refl, ◌∙◌, subst, subst₂, ⊎_elim, arith}
use Rattle.std.specs.Result.{result_err, result_unwrap_or}
use Rattle.history.specs.declared.messages.Post.{Post}
use Rattle.history.specs.declared.messages.Handling.TheVariants.{Sending, Receiving}
use Rattle.history.specs.Events.{Logs, at}
use Rattle.history.specs.declared.calls.Event.TheVariants.{Mark, Receive, Send}
use Rattle.history.specs.declared.calls.Event.{Event}
use Rattle.history.specs.Messages.{post_after, Stated}
use Rattle.history.specs.Rows.{Payload, put, merge_row, mark_row}
use Rattle.history.specs.Runs.{Size, with_entry}
use Rattle.history.specs.Board.{Contents, refusal, contents_after}
use Rattle.history.proofs.UnitRows.{Row, sent, received, marked}
use Rattle.history.proofs.LogFacts.{put_cases, entry_here, entry_keeps, entry_cases}
use Rattle.history.proofs.PostFacts.{may_receive, stated_other, stated_sent, stated_received}
use Rattle.history.proofs.Soundness.{Sound, grows, rows_grow, sent_row_grows, unsent_before, once_grows, ranged_grows}

module _ {V : Type 0} (M : Payload V) (z : Size) (s : Contents V) (logs : Logs) (h : Sound M z s logs) (u : ℕ) (below : u < z.units) where
  -- the states of all messages but m, whose state is q, after one more event
  posts_grow : (x : Event) (m : ℕ) (q : Post) → ((a : ℕ) → (a ≡ m → ⊥) → (x ≡ Send a → ⊥) × (x ≡ Receive a → ⊥)) → Stated (at (with_entry logs u x)) m q
      → (a : ℕ) → Stated (at (with_entry logs u x)) a (put s.posts m q a)
  posts_grow x m q d g a =
      ⊎_elim
      (λ p. subst₂ (λ b c. Stated (at (with_entry logs u x)) b c) (sym p.0) (sym p.1) g)
      (λ p. subst (Stated (at (with_entry logs u x)) a) (sym p.1) (stated_other logs u x a (s.posts a) (d a p.0).0 (d a p.0).1 (h.posts_are a)))
      (put_cases s.posts m q a)

  pub sound_send : (m : ℕ) → result_err (post_after (s.posts m) Sending) ≡ None → Sound M z (contents_after M z s u (Send m)) (with_entry logs u (Send m))
  sound_send m ok = record {
    rows_are = rows_grow M z s logs h u (Send m) (s.rows u) (sent (length (logs u)) m refl (entry_here logs u (Send m)) (grows M z s logs h u (Send m) (h.rows_are u))) s.rows refl (λ w d. refl);
    sent_row = λ a w j e. grind (arith, now a w j, sent_row_grows M z s logs h u (Send m) a);
    unsent_row = λ a n. ⊎_elim
        (λ p. absurd (n (rw p.0 (u, length (logs u), entry_here logs u (Send m)))))
        (λ p. p.1 ∙ h.unsent_row a (unsent_before M z s logs h u (Send m) a n))
        (put_cases s.message_rows m (s.rows u) a);
    posts_are = posts_grow (Send m) m (result_unwrap_or (post_after (s.posts m) Sending) (s.posts m)) (λ a d. grind arith) (stated_sent logs u m (s.posts m) ok (h.posts_are m));
    once = once_grows M z s logs h u (Send m) (λ a e. grind arith);
    ranged = ranged_grows M z s logs h u (Send m) below (λ l e. cc);
  }
    where
      -- the message that is sent now takes the sender's row
      now : (a w j : ℕ) → a ≡ m → at (with_entry logs u (Send m)) w j ≡ Some (Send a) → Row M (at (with_entry logs u (Send m))) w j (s.rows u)
      now a w j e p = grind (arith, entry_cases logs u (Send m) w j (Send a), grows M z s logs h u (Send m) (h.rows_are u))

  pub sound_receive : (m : ℕ) → result_err (post_after (s.posts m) Receiving) ≡ None → Sound M z (contents_after M z s u (Receive m)) (with_entry logs u (Receive m))
  sound_receive m ok = record {
    rows_are =
        (let (w, j, e) = ((may_receive (at logs) m (s.posts m) (h.posts_are m)).0 ok).0 in
        rows_grow M z s logs h u (Receive m) (merge_row M.start (s.rows u) (s.message_rows m))
        (received (length (logs u)) m w j (s.rows u) (s.message_rows m) refl (entry_here logs u (Receive m)) (entry_keeps logs u (Receive m) w j (Send m) e)
        (grows M z s logs h u (Receive m) (h.rows_are u)) (grows M z s logs h u (Receive m) (h.sent_row m w j e)) refl)
        (put s.rows u (merge_row M.start (s.rows u) (s.message_rows m))) (grind arith) (λ w d. grind arith));
    sent_row = λ a. sent_row_grows M z s logs h u (Receive m) a (λ e. cc);
    unsent_row = λ a n. h.unsent_row a (unsent_before M z s logs h u (Receive m) a n);
    posts_are = posts_grow (Receive m) m (result_unwrap_or (post_after (s.posts m) Receiving) (s.posts m)) (λ a d. grind arith) (stated_received logs u m (s.posts m) ok (h.posts_are m));
    once = once_grows M z s logs h u (Receive m) (λ a e. cc);
    ranged = ranged_grows M z s logs h u (Receive m) below (λ l e. cc);
  }

  pub sound_mark : (l : ℕ) → z.fits u l ≡ true → Sound M z (contents_after M z s u (Mark l)) (with_entry logs u (Mark l))
  sound_mark l fits = record {
    rows_are =
        rows_grow M z s logs h u (Mark l) (mark_row M u l (s.rows u))
        (marked (length (logs u)) l (s.rows u) refl (entry_here logs u (Mark l)) (grows M z s logs h u (Mark l) (h.rows_are u)) refl)
        (put s.rows u (mark_row M u l (s.rows u))) (grind arith) (λ w d. grind arith);
    sent_row = λ a. sent_row_grows M z s logs h u (Mark l) a (λ e. cc);
    unsent_row = λ a n. h.unsent_row a (unsent_before M z s logs h u (Mark l) a n);
    posts_are = λ a. stated_other logs u (Mark l) a (s.posts a) (λ e. cc) (λ e. cc) (h.posts_are a);
    once = once_grows M z s logs h u (Mark l) (λ a e. cc);
    ranged = ranged_grows M z s logs h u (Mark l) below (λ a e. grind arith);
  }

module _ {V : Type 0} (M : Payload V) (z : Size) where
  pub sound_accepted : (s : Contents V) (logs : Logs) → Sound M z s logs → (u : ℕ) (e : Event) → refusal M z s u e ≡ None → Sound M z (contents_after M z s u e) (with_entry logs u e)
  sound_accepted s logs h u (Send m) p = sound_send M z s logs h u (grind arith) m (grind arith)
  sound_accepted s logs h u (Receive m) p = sound_receive M z s logs h u (grind arith) m (grind arith)
  sound_accepted s logs h u (Mark l) p = sound_mark M z s logs h u (grind arith) l (grind arith)
