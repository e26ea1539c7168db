-- Induction over the calls of a list.
use Rattle.std.proofs.Common.{◌≡◌, List, [], ◌∷◌, ◌++◌, Some, None, Option, refl}
use Rattle.history.specs.declared.refusals.Refusal.{Refusal}
use Rattle.history.specs.Rows.{Payload}
use Rattle.history.specs.Runs.{Size, with_entry}
use Rattle.history.specs.declared.calls.Call.{Call}
use Rattle.history.specs.Board.{History, new_history, refusal, contents_after, reply, history_after, run_from, run}
use Rattle.history.proofs.Soundness.{Sound, sound_new}
use Rattle.history.proofs.SoundSteps.{sound_accepted}

module _ {V : Type 0} (M : Payload V) (z : Size) where
  -- the history after an accepted call
  abbrev pub taken : History V → Call → History V
  taken h c = record {
    contents = contents_after M z h.contents c.unit c.event;
    log = with_entry h.log c.unit c.event;
    replies = with_entry h.replies c.unit (reply M z c.unit c.event (h.contents.rows c.unit) ((contents_after M z h.contents c.unit c.event).rows c.unit));
  }

  pub after_taken : (h : History V) (c : Call) → refusal M z h.contents c.unit c.event ≡ None → history_after M z h c ≡ taken h c
  after_taken h c e = rw e refl

  pub after_refused : (h : History V) (c : Call) (x : Refusal) → refusal M z h.contents c.unit c.event ≡ Some x → history_after M z h c ≡ h
  after_refused h c x e = rw e refl

  -- each call is accepted or refused
  module _ (P : History V → List Call → Type 0) (none : (h : History V) → P h [])
      (took : (h : History V) (c : Call) (cs : List Call) → refusal M z h.contents c.unit c.event ≡ None → P (taken h c) cs → P h (c ∷ cs))
      (turned : (h : History V) (c : Call) (cs : List Call) (x : Refusal) → refusal M z h.contents c.unit c.event ≡ Some x → P h cs → P h (c ∷ cs)) where
    pub by_calls : (h : History V) (cs : List Call) → P h cs
    by_calls h [] = none h
    by_calls h (c ∷ cs) = go (refusal M z h.contents c.unit c.event) refl (by_calls (taken h c) cs) (by_calls h cs)
      where
        go : (o : Option Refusal) → refusal M z h.contents c.unit c.event ≡ o → P (taken h c) cs → P h cs → P h (c ∷ cs)
        go None e next same = took h c cs e next
        go (Some x) e next same = turned h c cs x e same

  -- what accepted calls keep, a run keeps
  pub run_keeps : (P : History V → Type 0) → ((h : History V) (c : Call) → P h → refusal M z h.contents c.unit c.event ≡ None → P (taken h c))
      → (h : History V) (cs : List Call) → P h → P (run_from M z h cs)
  run_keeps P keeps =
      by_calls (λ h cs. P h → P (run_from M z h cs)) (λ h p. p) (λ h c cs e next p. rw e (next (keeps h c p e))) (λ h c cs x e same p. rw e (same p))

  abbrev pub SoundAt : History V → Type 0
  SoundAt h = Sound M z h.contents h.log

  pub sound_taken : (h : History V) (c : Call) → SoundAt h → refusal M z h.contents c.unit c.event ≡ None → SoundAt (taken h c)
  sound_taken h c s e = sound_accepted M z h.contents h.log s c.unit c.event e

  pub sound_run : (cs : List Call) → SoundAt (run M z cs)
  sound_run cs = run_keeps SoundAt sound_taken (new_history M) cs (sound_new M z)

  run_from_push : (h : History V) (cs : List Call) (c : Call) → run_from M z h (cs ++ c ∷ []) ≡ history_after M z (run_from M z h cs) c
  run_from_push h [] c = refl
  run_from_push h (d ∷ cs) c = run_from_push (history_after M z h d) cs c

  pub run_push : (cs : List Call) (c : Call) → run M z (cs ++ c ∷ []) ≡ history_after M z (run M z cs) c
  run_push cs c = run_from_push (new_history M) cs c
