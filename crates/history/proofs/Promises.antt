-- The theorems of this crate that other crates may cite: what every list of calls leads to, what rows show of the marks, how calls
-- are gone through one by one, and lists that hold exactly what has a property.
use Rattle.std.proofs.Common.{◌≡◌, ℕ, suc, ◌<◌, ◌⊎◌, ◌↔◌, Bool, true, List, [], ◌∷◌, ◌++◌, map, length, Some, None, sym, subst}
use Rattle.history.specs.Board.{History, refusal, history_after, run, accepted_calls}
use Rattle.history.specs.Counting.{Exactly, HowMany, count_below}
use Rattle.history.specs.Events.{Events, at, IsSent, IsReceived}
use Rattle.history.specs.Laws.{run_events, Answered, AcceptsRuns, MessagesAnswered, RepliesAreAnswers, OrderFree, StampsDecide}
use Rattle.history.specs.Marks.{IsMark}
use Rattle.history.specs.Messages.{is_on_its_way, Stated}
use Rattle.history.specs.Predecessors.{ShowsPredecessors}
use Rattle.history.specs.Rows.{Payload, put}
use Rattle.history.specs.Runs.{Size, Ranged, Run, SameByUnit, events_in, with_entry}
use Rattle.history.specs.Stamps.{Stamp}
use Rattle.history.specs.declared.calls.Call.{Call}
use Rattle.history.specs.declared.calls.Event.TheVariants.{Mark}
use Rattle.history.specs.declared.cells.Cell.{Cell}
use Rattle.history.specs.declared.messages.Post.{Post}
use Rattle.history.specs.declared.refusals.Refusal.{Refusal}
use Rattle.history.proofs.AcceptanceFacts
use Rattle.history.proofs.AnswerFacts
use Rattle.history.proofs.StampOrderFacts
use Rattle.history.proofs.ListFacts
use Rattle.history.proofs.LogFacts
use Rattle.history.proofs.MarkFacts.{rows_hold}
use Rattle.history.proofs.OrderFacts
use Rattle.history.proofs.OutcomeFacts
use Rattle.history.proofs.PostFacts
use Rattle.history.proofs.UnitRows.{Row}
use Rattle.history.proofs.RunFacts
use Rattle.history.proofs.StampFacts.{clocks_stamp}
use Rattle.history.proofs.ReplyFacts.{said_run}
-- the history after an accepted call
pub use Rattle.history.proofs.RunFacts.{taken}

-- ---- What every list of calls leads to

-- Accepted is what a real run could do, no more and no less.
pub accepts_runs : {V : Type 0} (M : Payload V) (z : Size) (cs : List Call) → AcceptsRuns M z cs
accepts_runs M z cs = AcceptanceFacts.accepts_runs M z cs

-- Each accepted send or receipt was answered the number of its unit's marks so far.
pub messages_answered : (V : Type 0) → MessagesAnswered V
messages_answered V = AnswerFacts.messages_answered V

-- The replies to each unit are the answers to its accepted calls, in the order handed in.
pub replies_are_answers : (V : Type 0) → RepliesAreAnswers V
replies_are_answers V = OutcomeFacts.replies_are_answers V

-- Each unit has as many replies as accepted events.
pub replies_as_long : {V : Type 0} (M : Payload V) (z : Size) (cs : List Call) (u : ℕ) → length ((run M z cs).replies u) ≡ length ((run M z cs).log u)
replies_as_long M z cs u = (said_run M z cs).as_long u

-- Two lists whose accepted calls are the same unit by unit lead to the same answers and to boards that stand alike, and so they do
-- with one call more, the same for both.
pub order_free : {V : Type 0} (M : Payload V) (z : Size) (cs ds : List Call) → SameByUnit (accepted_calls M z cs) (accepted_calls M z ds) → OrderFree M z cs ds
order_free M z cs ds = OrderFacts.order_free M z cs ds

-- The accepted marks are made by units of the board, with labels that they may mark with.
pub marks_ranged : {V : Type 0} (M : Payload V) (z : Size) (cs : List Call) → Ranged (run_events M z cs) z
marks_ranged M z cs = (RunFacts.sound_run M z cs).ranged

-- In each list of calls that is a run, the marks are made by units of the board.
pub run_unit : (z : Size) (cs : List Call) → Run z cs → (u i : ℕ) → IsMark (events_in cs) u i → u < z.units
run_unit z cs ok u i = StampOrderFacts.run_unit z cs ok u i

-- ---- What rows show of marks

-- The value of each accepted mark: if what a mark makes of a row that shows its immediate predecessors with right values is right
-- for the mark, then each accepted mark was answered a right value.
pub values_right : {V : Type 0} (M : Payload V) (z : Size) (cs : List Call) (W : ℕ → ℕ → V → Type 0)
    → ((u i l : ℕ) (r : ℕ → Cell V) → run_events M z cs u i ≡ Some (Mark l) → ShowsPredecessors (run_events M z cs) W u i r → W u i (M.make r u l))
    → (u i l : ℕ) → run_events M z cs u i ≡ Some (Mark l) → (a : Answered M z cs u i) × W u i a.value
values_right M z cs W right u i l e =
    let ev = run_events M z cs in
    let (a, r, d, is) = AnswerFacts.answer_made M z cs u i l e in
    let holds = rows_hold ev M W (RunFacts.sound_run M z cs).once (λ u i l r e h. right u i l r e (AnswerFacts.holds_shows ev M.start W u i l r e h)) d in
    (a, subst (W u i) (sym is) (right u i l r e (AnswerFacts.holds_shows ev M.start W u i l r e holds)))

-- As long as a mark's unit does nothing more, the clocks of its row are the mark's stamp.
pub last_stamp : {V : Type 0} (M : Payload V) (z : Size) (cs : List Call) (u i l : ℕ) → run_events M z cs u i ≡ Some (Mark l)
    → length ((run M z cs).log u) ≡ suc i → Stamp (run_events M z cs) u i (λ v. ((run M z cs).contents.rows u v).clock)
last_stamp M z cs u i l e last =
    let sound = RunFacts.sound_run M z cs in
    clocks_stamp M (run_events M z cs) sound.once u i l e ((run M z cs).contents.rows u)
    (subst (λ (k : ℕ). Row M (run_events M z cs) u k ((run M z cs).contents.rows u)) last (sound.rows_are u))

-- The stamps of two marks of any run decide their order.
pub stamps_decide : StampsDecide
stamps_decide z cs ok = StampOrderFacts.stamps_decide z cs ok

-- ---- Calls one by one

-- An accepted call leaves the history `taken`: its event is logged, and so is the reply.
pub after_taken : {V : Type 0} (M : Payload V) (z : Size) (h : History V) (c : Call) → refusal M z h.contents c.unit c.event ≡ None → history_after M z h c ≡ taken M z h c
after_taken M z h c = RunFacts.after_taken M z h c

-- Induction over a list of calls, of which each is accepted or refused.
pub by_calls : {V : Type 0} (M : Payload V) (z : Size) (P : History V → List Call → Type 0) → ((h : History V) → P h [])
    → ((h : History V) (c : Call) (cs : List Call) → refusal M z h.contents c.unit c.event ≡ None → P (taken M z h c) cs → P h (c ∷ cs))
    → ((h : History V) (c : Call) (cs : List Call) (x : Refusal) → refusal M z h.contents c.unit c.event ≡ Some x → P h cs → P h (c ∷ cs))
    → (h : History V) (cs : List Call) → P h cs
by_calls M z P none took turned h cs = RunFacts.by_calls M z P none took turned h cs

-- A list with one call more leads to what the call leaves after a run of the list.
pub run_push : {V : Type 0} (M : Payload V) (z : Size) (cs : List Call) (c : Call) → run M z (cs ++ c ∷ []) ≡ history_after M z (run M z cs) c
run_push M z cs c = RunFacts.run_push M z cs c

-- A log that has grown by one entry has it at the position that was the length of the log.
pub entry_here : {A : Type 0} (logs : ℕ → List A) (u : ℕ) (x : A) → at (with_entry logs u x) u (length (logs u)) ≡ Some x
entry_here logs u x = LogFacts.entry_here logs u x

-- Where f is put to be x at u, it is x there and itself elsewhere.
pub put_cases : {A : Type 0} (f : ℕ → A) (u : ℕ) (x : A) (j : ℕ) → ((j ≡ u) × (put f u x j ≡ x)) ⊎ ((j ≡ u → ⊥) × (put f u x j ≡ f j))
put_cases f u x j = LogFacts.put_cases f u x j

-- A message is on its way exactly when it was sent and not received.
pub on_its_way_stated : (ev : Events) (m : ℕ) (p : Post) → Stated ev m p → (is_on_its_way p ≡ true) ↔ (IsSent ev m × (IsReceived ev m → ⊥))
on_its_way_stated ev m p = PostFacts.on_its_way_stated ev m p

-- ---- Lists that hold exactly what has a property

-- A list of nothing holds exactly what has a property that nothing has.
pub exactly_none : {A : Type 0} {P : A → Type 0} → ((a : A) → P a → ⊥) → Exactly P []
exactly_none none = ListFacts.exactly_none none

-- A list of one thing holds exactly what is this thing.
pub exactly_one : {A : Type 0} (a : A) → Exactly (λ b. b ≡ a) (a ∷ [])
exactly_one a = ListFacts.exactly_one a

-- Two lists one after the other hold exactly what has one or the other of their properties, if nothing has both.
pub exactly_append : {A : Type 0} {P Q : A → Type 0} → ((a : A) → P a → Q a → ⊥) → (s t : List A) → Exactly P s → Exactly Q t
    → Exactly (λ a. P a ⊎ Q a) (s ++ t)
exactly_append apart s t = ListFacts.exactly_append apart s t

-- What f makes of a list holds exactly what f makes of a thing with the list's property, if f makes of two things never the same.
pub exactly_map : {A B : Type 0} (f : A → B) → ((a b : A) → f a ≡ f b → a ≡ b) → {P : A → Type 0} (l : List A) → Exactly P l
    → Exactly (λ b. (a : A) × P a × (b ≡ f a)) (map f l)
exactly_map f apart l = ListFacts.exactly_map f apart l

-- A list holds exactly what has one property, if it holds exactly what has another and the same things have both.
pub exactly_like : {A : Type 0} {P Q : A → Type 0} → ((a : A) → P a → Q a) → ((a : A) → Q a → P a) → (l : List A) → Exactly P l → Exactly Q l
exactly_like to from l = ListFacts.exactly_like to from l

-- Two lists that hold exactly the same are the same up to order: F is true of both if it is true of two empty lists, and stays true
-- when one thing more is put in front of the one list and anywhere into the other.
pub exactly_same : {A : Type 0} (F : List A → List A → Type 0) → F [] [] → ((a : A) (l s t : List A) → F l (s ++ t) → F (a ∷ l) (s ++ (a ∷ t)))
    → {P : A → Type 0} (k l : List A) → Exactly P k → Exactly P l → F k l
exactly_same F none more k l = ListFacts.exactly_same F none more k l

-- Two tests that agree on the numbers below n are passed by equally many of these.
pub count_below_same : (f g : ℕ → Bool) (n : ℕ) → ((m : ℕ) → m < n → f m ≡ g m) → count_below f n ≡ count_below g n
count_below_same f g n e = ListFacts.count_below_same f g n e

-- There is one number of things of which P is true.
pub how_many_one : {A : Type 0} {P : A → Type 0} (m n : ℕ) → HowMany P m → HowMany P n → m ≡ n
how_many_one m n = ListFacts.how_many_one m n
