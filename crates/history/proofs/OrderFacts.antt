-- A run's history depends on nothing but its logs.
use Rattle.std.proofs.Common.{◌≡◌, ℕ, List, [], ◌∷◌, ◌++◌, map, sym, refl, ap, ◌∙◌, ⊎_elim, arith}
use mathlib.Core.Path.{fun_ext}
use Rattle.history.specs.Events.{Logs, at}
use Rattle.history.specs.Rows.{Payload}
use Rattle.history.specs.Runs.{Size, SameByUnit}
use Rattle.history.specs.declared.calls.Call.{Call}
use Rattle.history.specs.Board.{Contents, History, run, accepted_calls}
use Rattle.history.specs.Laws.{SameHistory, OrderFree, RunsOrderFree}
use Rattle.history.proofs.RowUniqueness.{row_one}
use Rattle.history.proofs.PostFacts.{stated_one, sent_or_not}
use Rattle.history.proofs.Soundness.{Sound}
use Rattle.history.proofs.RunFacts.{sound_run, run_push}
use Rattle.history.proofs.OutcomeFacts.{replies_are_answers}
use Rattle.history.proofs.ReplyFacts.{said_run, same_told}
use Rattle.history.proofs.AcceptanceFacts.{accepts_runs}

module _ {V : Type 0} (M : Payload V) (z : Size) where
  module _ (logs : Logs) (s t : Contents V) (a : Sound M z s logs) (b : Sound M z t logs) where
    same_rows : s.rows ≡ t.rows
    same_rows = grind (arith, row_one)

    same_message_rows : s.message_rows ≡ t.message_rows
    same_message_rows = fun_ext (λ m. ⊎_elim
        (λ p. row_one M (at logs) a.once (a.sent_row m p.0 p.1 p.2) (b.sent_row m p.0 p.1 p.2))
        (λ n. a.unsent_row m n ∙ sym (b.unsent_row m n))
        (sent_or_not (at logs) m (s.posts m) (a.posts_are m)))

    pub same_contents : s ≡ t
    same_contents = let posts : s.posts ≡ t.posts = fun_ext (λ m. stated_one (at logs) m (s.posts m) (t.posts m) (a.posts_are m) (b.posts_are m)) in grind (arith, same_rows, same_message_rows)

  -- the same accepted calls unit by unit: the same history
  pub same_history : (cs ds : List Call) → ((u : ℕ) → (run M z cs).log u ≡ (run M z ds).log u) → run M z cs ≡ run M z ds
  same_history cs ds same = built (run M z cs) (run M z ds) contents logs replies
    where
      logs : (run M z cs).log ≡ (run M z ds).log
      logs = fun_ext same

      contents : (run M z cs).contents ≡ (run M z ds).contents
      contents = same_contents (run M z cs).log (run M z cs).contents (run M z ds).contents (sound_run M z cs) (rw logs (sound_run M z ds))

      replies : (run M z cs).replies ≡ (run M z ds).replies
      replies = fun_ext (same_told M z (run M z cs).log (run M z cs).replies (run M z ds).replies (sound_run M z cs).once (said_run M z cs) (rw logs (said_run M z ds)))

      built : (g h : History V) → g.contents ≡ h.contents → g.log ≡ h.log → g.replies ≡ h.replies → g ≡ h
      built g h x y w = grind arith

  alike : (g h : History V) → g ≡ h → SameHistory g h
  alike g h e = grind arith

  pub order_free : (cs ds : List Call) → SameByUnit (accepted_calls M z cs) (accepted_calls M z ds) → OrderFree M z cs ds
  order_free cs ds same =
      let e = same_history cs ds (λ u. (accepts_runs M z cs).logged u ∙ same u ∙ sym ((accepts_runs M z ds).logged u)) in
      record {
        answers = λ u. sym (replies_are_answers V M z cs u) ∙ ap (λ (h : History V). map (λ r. r.answer) (h.replies u)) e ∙ replies_are_answers V M z ds u;
        alike = alike (run M z cs) (run M z ds) e;
        one_more = λ c. rw e refl;
        one_more_alike = λ c. alike (run M z (cs ++ c ∷ [])) (run M z (ds ++ c ∷ [])) (run_push M z cs c ∙ rw e (sym (run_push M z ds c)));
      }

pub runs_order_free : (V : Type 0) → RunsOrderFree V
runs_order_free V M z cs ds same = order_free M z cs ds same
