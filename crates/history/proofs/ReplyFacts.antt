-- The replies to the units are what their rows say.
-- Each reply is made from the unit's rows just before its event and just after it, and stands at the event's position. An accepted call adds
-- one event and one reply at one position; later events leave earlier rows and replies as they are. A unit has one row at each position, so
-- the logs alone say what the replies are.
use Rattle.std.proofs.Common.{◌≡◌, ℕ, suc, ◌<◌, List, length, get_or, Some, None, sym, ◌∙◌, subst, ap₂, inl, inr, ⊎_elim, arith}
use Rattle.std.specs.List.{slice_get}
use Rattle.std.proofs.lemmas.List.{same_lists}
use Rattle.std.proofs.lemmas.Option.{slice_get_cases, get_or_from_slice_get}
use Rattle.history.specs.Events.{Logs, at}
use Rattle.history.specs.declared.calls.Event.{Event}
use Rattle.history.specs.Rows.{Payload}
use Rattle.history.specs.declared.cells.Cell.{Cell}
use Rattle.history.specs.Runs.{Size, silence, with_entry}
use Rattle.history.specs.declared.calls.Call.{Call}
use Rattle.history.specs.Board.{Reply, History, new_history, refusal, contents_after, reply, run}
use Rattle.history.proofs.UnitRows.{Row}
use Rattle.history.proofs.RowTruth.{Once}
use Rattle.history.proofs.RowUniqueness.{row_one}
use Rattle.history.proofs.LogFacts.{entry_length, entry_other, entry_here, entry_keeps, entry_cases}
use Rattle.history.proofs.Soundness.{grows, sound_new}
use Rattle.history.proofs.SoundSteps.{sound_accepted}
use Rattle.history.proofs.RunFacts.{taken, SoundAt, run_keeps}

-- each event has a reply, made from the unit's rows before and after it
pub record Said {V : Type 0} (M : Payload V) (z : Size) (logs : Logs) (replies : ℕ → List (Reply V)) : Type 0 where
  pub as_long : (u : ℕ) → length (replies u) ≡ length (logs u)
  pub says : (u i : ℕ) (e : Event) → at logs u i ≡ Some e
      → (r t : ℕ → Cell V) × Row M (at logs) u i r × Row M (at logs) u (suc i) t × (at replies u i ≡ Some (reply M z u e r t))

-- at each position of a list something stands
there : {A : Type 0} (l : List A) (i : ℕ) → i < length l → (e : A) × (slice_get l i ≡ Some e)
there l i h = elim ((slice_get_cases l i).1) [ inl (e, _, p, _) ↦ (e, p) | inr p ↦ absurd (let q = p.0 in omega arith) ]

module _ {V : Type 0} (M : Payload V) (z : Size) where
  said_new : Said M z silence silence
  said_new = grind arith

  module _ (h : History V) (c : Call) (s : SoundAt M z h) (d : Said M z h.log h.replies) (ok : refusal M z h.contents c.unit c.event ≡ None) where
    rows : ℕ → Cell V
    rows = (contents_after M z h.contents c.unit c.event).rows c.unit

    answer : Reply V
    answer = reply M z c.unit c.event (h.contents.rows c.unit) rows

    Says : ℕ → ℕ → Event → Type 0
    Says w i x =
        (r t : ℕ → Cell V) × Row M (at (with_entry h.log c.unit c.event)) w i r × Row M (at (with_entry h.log c.unit c.event)) w (suc i) t
        × (at (with_entry h.replies c.unit answer) w i ≡ Some (reply M z w x r t))

    says_before : (w i : ℕ) (x : Event) → at h.log w i ≡ Some x → Says w i x
    unfolding Says
    says_before w i x p =
        let (r, t, y, g, q) = d.says w i x p in
        (r, t, grows M z h.contents h.log s c.unit c.event y, grows M z h.contents h.log s c.unit c.event g, entry_keeps h.replies c.unit answer w i _ q)

    says_now : Says c.unit (length (h.log c.unit)) c.event
    unfolding Says answer rows
    says_now = (
      h.contents.rows c.unit,
      rows,
      grows M z h.contents h.log s c.unit c.event (s.rows_are c.unit),
      subst (λ (k : ℕ). Row M (at (with_entry h.log c.unit c.event)) c.unit k rows) (entry_length h.log c.unit c.event) ((sound_accepted M z h.contents h.log s c.unit c.event ok).rows_are c.unit),
      subst (λ (k : ℕ). at (with_entry h.replies c.unit answer) c.unit k ≡ Some answer) (d.as_long c.unit) (entry_here h.replies c.unit answer),
    )

    as_long_now : (w : ℕ) → length (with_entry h.replies c.unit answer w) ≡ length (with_entry h.log c.unit c.event w)
    as_long_now w = grind (arith, entry_length, entry_other)

    pub said_accepted : Said M z (taken M z h c).log (taken M z h c).replies
    unfolding Says answer rows
    said_accepted = record {
      as_long = as_long_now;
      says = λ w i x p. ⊎_elim (λ q. rw (q.0, q.1, ← q.2) says_now) (says_before w i x) (entry_cases h.log c.unit c.event w i x p);
    }

  -- a sound history that has said what its rows say
  abbrev pub SaidAt : History V → Type 0
  SaidAt h = SoundAt M z h × Said M z h.log h.replies

  pub said_run : (cs : List Call) → Said M z (run M z cs).log (run M z cs).replies
  said_run cs =
      (run_keeps M z SaidAt (λ h c s e. (sound_accepted M z h.contents h.log s.0 c.unit c.event e, said_accepted h c s.0 s.1 e)) (new_history M) cs (sound_new M z, said_new)).1

  -- the logs tell all replies
  pub same_told : (logs : Logs) (a b : ℕ → List (Reply V)) → Once (at logs) → Said M z logs a → Said M z logs b → (u : ℕ) → a u ≡ b u
  same_told logs a b once x y u = same_lists (a u) (b u) (x.as_long u ∙ sym (y.as_long u)) each
    where
      each : (i : ℕ) (other : Reply V) → i < length (a u) → get_or (a u) i other ≡ get_or (b u) i other
      each i other h =
          let (e, p) = there (logs u) i (let l = x.as_long u in omega arith) in
          let (r, t, d, g, q) = x.says u i e p in
          let (r', t', d', g', q') = y.says u i e p in
          get_or_from_slice_get (a u) i _ other q ∙ ap₂ (reply M z u e) (row_one M (at logs) once d d') (row_one M (at logs) once g g') ∙ sym (get_or_from_slice_get (b u) i _ other q')
