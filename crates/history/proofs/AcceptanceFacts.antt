-- Accepted is what a real run could do.
use Rattle.std.proofs.Common.{◌≡◌, ◌↔◌, ℕ, cond, eqb, List, ◌∷◌, ◌++◌, length, None, sym, refl, ap, ◌∙◌, append_assoc, append-nil, arith}
use Rattle.history.specs.Events.{Logs, at}
use Rattle.history.specs.declared.calls.Event.TheVariants.{Mark, Receive, Send}
use Rattle.history.specs.declared.calls.Event.{Event}
use Rattle.history.specs.Marks.{marks}
use Rattle.history.specs.Rows.{Payload}
use Rattle.history.specs.declared.cells.Cell.{Cell}
use Rattle.history.specs.Runs.{Size, Possible, Continues, with_entry, by_unit}
use Rattle.history.specs.declared.calls.Call.{Call}
use Rattle.history.specs.Board.{Contents, History, new_history, refusal, run_from, run, accepted_calls_from}
use Rattle.history.specs.Laws.{AcceptsRuns, AcceptedAreRuns}
use Rattle.history.proofs.UnitRows.{Row}
use Rattle.history.proofs.RowTruth.{Once, Holds}
use Rattle.history.proofs.MarkFacts.{rows_hold}
use Rattle.history.proofs.PostFacts.{may_send, may_receive}
use Rattle.history.proofs.Soundness.{Sound, sound_new}
use Rattle.history.proofs.RunFacts.{taken, after_taken, after_refused, by_calls, SoundAt, sound_taken, sound_run}

module _ {V : Type 0} (M : Payload V) where
  -- every row tells the truth of clocks and flags, whatever it carries
  pub rows_true : (ev : _) → Once ev → {u i : ℕ} {r : ℕ → Cell V} → Row M ev u i r → Holds ev M.start (λ v p x. Unit {0}) u i r
  rows_true ev once d = rows_hold ev M (λ v p x. Unit {0}) once (λ u k l r e h. tt) d

module _ {V : Type 0} (M : Payload V) (z : Size) where
  module _ (s : Contents V) (logs : Logs) (h : Sound M z s logs) where
    -- the own clock is the number of the unit's marks
    pub own_marks : (u : ℕ) → (s.rows u u).clock ≡ marks (at logs) u (length (logs u))
    own_marks u = (rows_true M (at logs) h.once (h.rows_are u)).mine

    -- a call is accepted exactly when a real run could make it
    pub accepted_possible : (u : ℕ) (e : Event) → (refusal M z s u e ≡ None) ↔ Possible z logs u e
    accepted_possible u (Send m) = let t = may_send (at logs) m (s.posts m) (h.posts_are m) in grind arith
    accepted_possible u (Receive m) = let t = may_receive (at logs) m (s.posts m) (h.posts_are m) in grind arith
    accepted_possible u (Mark l) = let e = own_marks u in grind arith

  accepted_continues : (h : History V) (cs : List Call) → SoundAt M z h → Continues z h.log (accepted_calls_from M z h cs)
  accepted_continues = by_calls M z (λ h cs. SoundAt M z h → Continues z h.log (accepted_calls_from M z h cs)) (λ h s. tt)
      (λ h c cs e next s. rw e ((accepted_possible h.contents h.log s c.unit c.event).0 e, next (sound_taken M z h c s e)))
      (λ h c cs x e same s. rw e (same s))

  accepted_idle : (h : History V) (cs : List Call) → run_from M z h (accepted_calls_from M z h cs) ≡ run_from M z h cs
  accepted_idle = by_calls M z (λ h cs. run_from M z h (accepted_calls_from M z h cs) ≡ run_from M z h cs) (λ h. refl)
      (λ h c cs e next. rw e (ap (λ (g : History V). run_from M z g (accepted_calls_from M z (taken M z h c) cs)) (after_taken M z h c e) ∙ next))
      (λ h c cs x e same. rw e same)

  continues_accepted : (h : History V) (cs : List Call) → SoundAt M z h → Continues z h.log cs → accepted_calls_from M z h cs ≡ cs
  continues_accepted = by_calls M z (λ h cs. SoundAt M z h → Continues z h.log cs → accepted_calls_from M z h cs ≡ cs) (λ h s p. refl)
      (λ h c cs e next s p. rw e (ap (λ (l : List Call). c ∷ l) (next (sound_taken M z h c s e) p.1)))
      (λ h c cs x e same s p. (let f = (accepted_possible h.contents h.log s c.unit c.event).1 p.0 in cc))

  entry_by_unit : (logs : Logs) (c : Call) (u : ℕ) (l : List Event) → with_entry logs c.unit c.event u ++ l ≡ logs u ++ cond (eqb u c.unit) (c.event ∷ l) l
  entry_by_unit logs c u l = grind (arith, append_assoc)

  -- the log of a run is what was there and the accepted calls
  log_accepted : (h : History V) (cs : List Call) (u : ℕ) → (run_from M z h cs).log u ≡ h.log u ++ by_unit (accepted_calls_from M z h cs) u
  log_accepted = by_calls M z (λ h cs. (u : ℕ) → (run_from M z h cs).log u ≡ h.log u ++ by_unit (accepted_calls_from M z h cs) u) (λ h u. sym (append-nil (h.log u)))
      (λ h c cs e next u. rw e (ap (λ (g : History V). (run_from M z g cs).log u) (after_taken M z h c e) ∙ next u ∙ entry_by_unit h.log c u (by_unit (accepted_calls_from M z (taken M z h c) cs) u)))
      (λ h c cs x e same u. rw e (ap (λ (g : History V). (run_from M z g cs).log u) (after_refused M z h c x e) ∙ same u))

  pub accepts_runs : (cs : List Call) → AcceptsRuns M z cs
  accepts_runs cs =
      let s = sound_run M z cs in
      record {
        next_call = accepted_possible (run M z cs).contents (run M z cs).log s;
        accepted_run = accepted_continues (new_history M) cs (sound_new M z);
        refused_idle = accepted_idle (new_history M) cs;
        run_accepted = continues_accepted (new_history M) cs (sound_new M z);
        logged = log_accepted (new_history M) cs;
        posts_stated = s.posts_are;
      }

pub accepted_are_runs : (V : Type 0) → AcceptedAreRuns V
accepted_are_runs V M z cs = accepts_runs M z cs
