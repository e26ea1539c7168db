-- The state of a message as the logs grow.
use Rattle.std.proofs.Common.{◌≡◌, ℕ, ◌⊎◌, ◌↔◌, true, length, Some, None, arith}
use Rattle.std.specs.Result.{result_err, result_unwrap_or}
use Rattle.history.specs.declared.messages.Post.{Post}
use Rattle.history.specs.declared.messages.Post.TheVariants.{Unsent, OnItsWay, Delivered}
use Rattle.history.specs.declared.messages.Handling.TheVariants.{Sending, Receiving}
use Rattle.history.specs.Events.{Events, Logs, at, IsSent, IsReceived}
use Rattle.history.specs.declared.calls.Event.TheVariants.{Receive, Send}
use Rattle.history.specs.declared.calls.Event.{Event}
use Rattle.history.specs.Messages.{post_after, is_on_its_way, Stated}
use Rattle.history.specs.Runs.{with_entry}
use Rattle.history.proofs.LogFacts.{entry_here, entry_keeps, entry_cases}

-- what the state allows is what the events allow
pub may_send : (ev : Events) (m : ℕ) (p : Post) → Stated ev m p → (result_err (post_after p Sending) ≡ None) ↔ (IsSent ev m → ⊥)
may_send ev m p s = grind arith

pub may_receive : (ev : Events) (m : ℕ) (p : Post) → Stated ev m p → (result_err (post_after p Receiving) ≡ None) ↔ (IsSent ev m × (IsReceived ev m → ⊥))
may_receive ev m p s = grind arith

-- a message is on its way exactly when it was sent and not received
pub on_its_way_stated : (ev : Events) (m : ℕ) (p : Post) → Stated ev m p → (is_on_its_way p ≡ true) ↔ (IsSent ev m × (IsReceived ev m → ⊥))
on_its_way_stated ev m p s = grind arith

-- the events say one state of a message
pub stated_one : (ev : Events) (m : ℕ) (p q : Post) → Stated ev m p → Stated ev m q → p ≡ q
stated_one ev m p q s t = grind arith

-- a stated message was sent or not
pub sent_or_not : (ev : Events) (m : ℕ) (p : Post) → Stated ev m p → IsSent ev m ⊎ (IsSent ev m → ⊥)
sent_or_not ev m p s = grind arith

module _ (logs : Logs) (u : ℕ) (x : Event) where
  keeps : (e : Event) → (w i : ℕ) × (at logs w i ≡ Some e) → (w i : ℕ) × (at (with_entry logs u x) w i ≡ Some e)
  keeps e (w, i, p) = (w, i, entry_keeps logs u x w i e p)

  adds_none : (e : Event) → (x ≡ e → ⊥) → ((w i : ℕ) × (at logs w i ≡ Some e) → ⊥) → (w i : ℕ) × (at (with_entry logs u x) w i ≡ Some e) → ⊥
  adds_none e d n (w, i, p) = grind (arith, entry_cases logs u x w i e, n)

  -- an event that does not concern the message
  pub stated_other : (m : ℕ) (p : Post) → (x ≡ Send m → ⊥) → (x ≡ Receive m → ⊥) → Stated (at logs) m p → Stated (at (with_entry logs u x)) m p
  stated_other m p a b s = grind (arith, keeps (Send m), keeps (Receive m), adds_none (Send m) a, adds_none (Receive m) b)

module _ (logs : Logs) (u m : ℕ) where
  pub stated_sent : (p : Post) → result_err (post_after p Sending) ≡ None → Stated (at logs) m p → Stated (at (with_entry logs u (Send m))) m (result_unwrap_or (post_after p Sending) p)
  stated_sent Unsent e s = ((u, length (logs u), entry_here logs u (Send m)), adds_none logs u (Send m) (Receive m) (λ e. cc) s.1)
  stated_sent OnItsWay e s = cc
  stated_sent Delivered e s = cc

  pub stated_received : (p : Post) → result_err (post_after p Receiving) ≡ None → Stated (at logs) m p → Stated (at (with_entry logs u (Receive m))) m (result_unwrap_or (post_after p Receiving) p)
  stated_received Unsent e s = cc
  stated_received OnItsWay e s = (keeps logs u (Receive m) (Send m) s.0, (u, length (logs u), entry_here logs u (Receive m)))
  stated_received Delivered e s = cc
