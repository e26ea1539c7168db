-- What becomes of a message.
use Rattle.std.specs.Prelude.{ℕ, Bool, true, false, Ok, Err, Result}
use Rattle.history.specs.declared.messages.Post.{Post}
use Rattle.history.specs.declared.messages.Post.TheVariants.{Unsent, OnItsWay, Delivered}
use Rattle.history.specs.declared.messages.Handling.{Handling}
use Rattle.history.specs.declared.messages.Handling.TheVariants.{Sending, Receiving}
use Rattle.history.specs.declared.refusals.Refusal.{Refusal}
use Rattle.history.specs.declared.refusals.Refusal.TheVariants.{SentBefore, NeverSent, ReceivedBefore}
use Rattle.history.specs.Events.{Events, IsSent, IsReceived}

-- The number of each state of a message.
abbrev pub post_number : Post → ℕ
post_number Unsent = 0
post_number OnItsWay = 1
post_number Delivered = 2

-- what a message is before anything is sent
abbrev pub unsent : Post
unsent = Unsent

-- What a send or a receipt makes of a message, or why it is refused.
abbrev pub post_after : Post → Handling → Result Post Refusal
post_after Unsent Sending = Ok OnItsWay
post_after OnItsWay Sending = Err SentBefore
post_after Delivered Sending = Err SentBefore
post_after Unsent Receiving = Err NeverSent
post_after OnItsWay Receiving = Ok Delivered
post_after Delivered Receiving = Err ReceivedBefore

-- Whether a message in this state is on its way: it was sent, and not received.
abbrev pub is_on_its_way : Post → Bool
is_on_its_way Unsent = false
is_on_its_way OnItsWay = true
is_on_its_way Delivered = false

-- The state of message m is what the events say.
abbrev pub Stated : Events → ℕ → Post → Type 0
Stated ev m Unsent = (IsSent ev m → ⊥) × (IsReceived ev m → ⊥)
Stated ev m OnItsWay = IsSent ev m × (IsReceived ev m → ⊥)
Stated ev m Delivered = IsSent ev m × IsReceived ev m
