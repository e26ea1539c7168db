-- What is read of a recording: the calls before the first refusal, and their lines.
use Rattle.std.proofs.Common.{◌≡◌, ℕ, ◌+◌, Bool, ◌⊎◌, true, List, [], ◌∷◌, ◌++◌, Some, None, Ok, Err, Option, Result, refl, ap, ◌∙◌, inl, inr}
use Rattle.history.specs.declared.refusals.Refusal.{Refusal}
use Rattle.history.specs.Rows.{Payload}
use Rattle.history.specs.Runs.{Size}
use Rattle.history.specs.declared.calls.Call.{Call}
use Rattle.history.specs.Board.{History, Contents, new_contents, new_history, contents_after, answer_to, outcomes_from, if_taken, refusal, history_after, run_from, run, accepted_calls_from, contents_from}
use Rattle.history.proofs.Promises.{by_calls}
use Rattle.causality.specs.Boards.{make_refusal}
use Rattle.measures.specs.Measures.{Meaning}
use Rattle.measures.specs.Worths.{measured_payload}
use Rattle.reports.specs.declared.commands.Command.{Command}
use Rattle.reports.specs.declared.commands.Command.TheVariants as commands
use Rattle.reports.specs.declared.faults.Reason.{Reason}
use Rattle.reports.specs.declared.faults.Reason.TheVariants.{NoBoard, Refused}
use Rattle.reports.specs.declared.lines.MarkLine.{MarkLine}
use Rattle.reports.specs.Commands.{making_size, first_command}
use Rattle.reports.specs.Recordings.{calls_before_refusal, line, lines, empty_transcript, transcript_of_board, transcript_on, transcript_from, transcript}

module _ {V : Type 0} (M : Payload V) (z : Size) where
  -- the calls before the first refusal
  abbrev pub reads : Contents V → List Call → List Call
  reads s cs = calls_before_refusal cs (outcomes_from M z s cs)

  -- each call is accepted after those before it
  abbrev pub AllTaken : History V → List Call → Type 0
  AllTaken h [] = Unit {0}
  AllTaken h (c ∷ cs) = (refusal M z h.contents c.unit c.event ≡ None) × AllTaken (history_after M z h c) cs

  -- The calls before the first refusal are all accepted.
  pub reads_taken : (h : History V) (cs : List Call) → AllTaken h (reads h.contents cs)
  reads_taken = by_calls M z (λ h cs. AllTaken h (reads h.contents cs)) (λ h. tt) (λ h c cs allowed later. rw (allowed, allowed) (refl, later)) (λ h c cs refused_so allowed same. rw allowed tt)

  -- Where all are accepted, the accepted calls are all of them.
  pub taken_accepted : (h : History V) (cs : List Call) → AllTaken h cs → accepted_calls_from M z h cs ≡ cs
  taken_accepted h [] taken = refl
  taken_accepted h (c ∷ cs) taken =
      ap (λ (o : Option Refusal). if_taken o (c ∷ accepted_calls_from M z (history_after M z h c) cs) (accepted_calls_from M z (history_after M z h c) cs)) taken.0
      ∙ ap (λ (l : List Call). c ∷ l) (taken_accepted (history_after M z h c) cs taken.1)

  -- So they are all of the accepted calls among them.
  pub reads_ok : (h : History V) (cs : List Call) → accepted_calls_from M z h (reads h.contents cs) ≡ reads h.contents cs
  reads_ok h cs = taken_accepted h (reads h.contents cs) (reads_taken h cs)

  -- The contents after a list of calls are its run's.
  state_run : (h : History V) (cs : List Call) → contents_from M z h.contents cs ≡ (run_from M z h cs).contents
  state_run h [] = refl
  state_run h (c ∷ cs) = state_run (history_after M z h c) cs

  -- And so it is on a new board.
  pub last_run : (cs : List Call) → contents_from M z (new_contents M) cs ≡ (run M z cs).contents
  last_run cs = state_run (new_history M) cs

module _ (m : Meaning ℕ) (some all : ℕ → Bool) where
  -- The lines are those of the calls before the first refusal alone.
  pub reads_lines : (M : Payload ℕ) (z : Size) (h : History ℕ) (cs : List Call)
      → lines m some all cs (outcomes_from M z h.contents cs) ≡ lines m some all (reads M z h.contents cs) (outcomes_from M z h.contents (reads M z h.contents cs))
  reads_lines M z = by_calls M z (λ h cs. lines m some all cs (outcomes_from M z h.contents cs) ≡ lines m some all (reads M z h.contents cs) (outcomes_from M z h.contents (reads M z h.contents cs))) (λ h. refl)
      (λ h c cs e ih. rw (e, e) (ap (λ (l : List MarkLine). line m some all c.unit (answer_to M z c.unit c.event (h.contents.rows c.unit) ((contents_after M z h.contents c.unit c.event).rows c.unit)) ++ l) ih))
      (λ h c cs x e same. rw e refl)

  -- a recording breaks off before any call; or its first command makes a board, and it comes to what the rest does on it
  abbrev pub TranscriptCases : ℕ → List ℕ → Type 0
  TranscriptCases place bytes =
      ((reason : Reason) × (transcript m some all place bytes ≡ empty_transcript m some all reason place))
      ⊎ ((n k : ℕ) × (rest : List ℕ) × (first_command bytes ≡ Ok (commands.Make n k, rest)) × (make_refusal n k true ≡ None)
      × (transcript m some all place bytes ≡ transcript_on m some all n k (new_contents (measured_payload m n)) (place + making_size) rest))

  -- Each recording does the one or the other.
  pub transcript_cases : (place : ℕ) (bytes : List ℕ) → TranscriptCases place bytes
  transcript_cases place bytes = from (first_command bytes) refl
    where
      made : (n k : ℕ) (rest : List ℕ) → first_command bytes ≡ Ok (commands.Make n k, rest) → (o : Option Refusal) → make_refusal n k true ≡ o
          → transcript m some all place bytes ≡ transcript_of_board m some all n k place rest o → TranscriptCases place bytes
      made n k rest e (Some x) r t = inl (Refused x, t)
      made n k rest e None r t = inr (n, k, rest, e, r, t)

      from : (r : Result (Command × List ℕ) Reason) → first_command bytes ≡ r → TranscriptCases place bytes
      from (Err reason) e = inl (reason, ap (transcript_from m some all place) e)
      from (Ok (commands.Make n k, rest)) e = made n k rest e (make_refusal n k true) refl (ap (transcript_from m some all place) e)
      from (Ok (commands.Call c, rest)) e = inl (NoBoard, ap (transcript_from m some all place) e)
      from (Ok (commands.End, rest)) e = inl (NoBoard, ap (transcript_from m some all place) e)
