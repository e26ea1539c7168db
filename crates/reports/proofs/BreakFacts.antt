-- The size of the board that a recording makes, how far its calls are read, and what stands where it breaks off.
-- By the first command: one that makes no board breaks off at once. On a board, either each call is read and the command after them breaks off, less
-- than three bytes on; or the call after those read is refused. In both, three bytes for each call read stand before the break, and no more calls.
use Rattle.std.proofs.Common.{◌≡◌, ℕ, ◌+◌, ◌*◌, ◌<◌, ◌⊎◌, true, List, [], ◌∷◌, ◌++◌, length, drop, take, Some, None, Ok, Err, Option, Result, refl, sym, ap, ◌∙◌, subst, inl, inr, arith, append-nil}
use Rattle.std.proofs.lemmas.List.{drop-drop, drop-take}
use Rattle.history.specs.declared.refusals.Refusal.{Refusal}
use Rattle.history.specs.Rows.{Payload}
use Rattle.history.specs.Runs.{Size}
use Rattle.history.specs.declared.calls.Call.{Call}
use Rattle.history.specs.Board.{History, new_history, new_contents, outcomes_from, refusal, run_from, contents_from}
use Rattle.history.proofs.Promises.{by_calls, taken}
use Rattle.history.specs.Limits.{most_marks}
use Rattle.causality.specs.Boards.{make_refusal, left_among}
use Rattle.measures.specs.Worths.{measured_payload, measured_size}
use Rattle.reports.specs.declared.commands.Command.{Command}
use Rattle.reports.specs.declared.commands.Command.TheVariants as commands
use Rattle.reports.specs.declared.faults.Reason.{Reason}
use Rattle.reports.specs.declared.faults.Reason.TheVariants.{NoByte, NoCommand, NoOperands, NoBoard, SecondBoard, BytesAfterEnd, Refused}
use Rattle.reports.specs.declared.faults.RecordingFault.{RecordingFault}
use Rattle.reports.specs.Commands.{making_size, call_size, first_command, calls_in}
use Rattle.reports.specs.Laws.{AfterCalls, Breaks, RefusedCall}
use Rattle.reports.specs.Recordings.{Transcript, end_after_calls, ending, transcript_from, empty_transcript, transcript_of_board, transcript_on}
use Rattle.reports.specs.Reports.{judge_in, some_in, all_in, recording_at, transcript_in}
use Rattle.reports.proofs.CallFacts.{after_making, calls_before, calls_after}
use Rattle.reports.proofs.CutFacts.{same_break}
use Rattle.reports.proofs.FirstCommandFacts.{OfForm, begins}
use Rattle.reports.proofs.MakingFacts.{transcript-making}
use Rattle.reports.proofs.TranscriptFacts.{reads}

module _ (M : Payload ℕ) (z : Size) where
  -- Where answers break off, each call was read, and what closes them does so; or it is the call after those read that is refused.
  abbrev pub BreakOff : History ℕ → List Call → Type 0
  BreakOff h cs =
      (place : ℕ) (closing : Result ℕ RecordingFault) (f : RecordingFault) → ending place (outcomes_from M z h.contents cs) closing ≡ Err f
      → ((closing ≡ Err f) × (reads M z h.contents cs ≡ cs))
      ⊎ ((e : Refusal) × (c : Call) × (after : List Call) × (cs ≡ reads M z h.contents cs ++ c ∷ after)
      × (refusal M z (run_from M z h (reads M z h.contents cs)).contents c.unit c.event ≡ Some e) × (Refused e ≡ f.reason) × (f.place ≡ place + call_size * length (reads M z h.contents cs)))

  pub break_off : (h : History ℕ) (cs : List Call) → BreakOff h cs
  break_off = by_calls M z BreakOff (λ h place closing f is. inl (is, refl)) if_accepted if_refused
    where
      if_accepted : (h : History ℕ) (c : Call) (cs : List Call) → refusal M z h.contents c.unit c.event ≡ None → BreakOff (taken M z h c) cs → BreakOff h (c ∷ cs)
      if_accepted h c cs allowed ih = rw (allowed, allowed) (λ place closing f is. elim (ih (place + call_size) closing f is) [
        | inl (closes, whole) ↦ inl (closes, ap (λ (l : List Call). c ∷ l) whole)
        | inr (e, d, after, split, refused_so, reason, there) ↦ inr (e, d, after, ap (λ (l : List Call). c ∷ l) split, refused_so, reason, omega arith)
      ])

      if_refused : (h : History ℕ) (c : Call) (cs : List Call) (x : Refusal) → refusal M z h.contents c.unit c.event ≡ Some x → BreakOff h cs → BreakOff h (c ∷ cs)
      if_refused h c cs x refused_so same = rw refused_so (λ place closing f is.
          let (reason, there) = same_break (Refused x) place f is in
          inr (x, c, cs, refl, refused_so, reason, omega arith))

module _ (b : List ℕ) where
  abbrev bytes : List ℕ
  bytes = drop (recording_at b) b

  -- what a recording comes to whose first command makes such a board, refused so or made
  by_board : (n k : ℕ) (rest : List ℕ) → first_command bytes ≡ Ok (commands.Make n k, rest) → (o : Option Refusal) → make_refusal n k true ≡ o
      → transcript_in b ≡ transcript_of_board (judge_in b) (some_in b) (all_in b) n k (recording_at b) rest o
  by_board n k rest first o is = transcript-making (judge_in b) (some_in b) (all_in b) (recording_at b) bytes rest n k first o is

  -- The board has the size that the making asks for.
  pub sized_as_made : (n k : ℕ) (rest : List ℕ) → first_command bytes ≡ Ok (commands.Make n k, rest) → make_refusal n k true ≡ None
      → ((transcript_in b).units ≡ n) × ((transcript_in b).messages ≡ k)
  sized_as_made n k rest first made =
      let is = by_board n k rest first None made in
      (ap (λ (t : Transcript). t.units) is, ap (λ (t : Transcript). t.messages) is)

  -- what stands at a break, where it is one of form
  breaks_of_form : (place : ℕ) (reason : Reason) → OfForm reason → ((place ≡ recording_at b) ⊎ AfterCalls b place) → first_command (drop place b) ≡ Err reason → Breaks b place reason
  breaks_of_form place NoByte of_form at is = (at, is)
  breaks_of_form place NoCommand of_form at is = (at, is)
  breaks_of_form place NoOperands of_form at is = (at, is)
  breaks_of_form place NoBoard of_form at is = absurd of_form
  breaks_of_form place SecondBoard of_form at is = absurd of_form
  breaks_of_form place BytesAfterEnd of_form at is = absurd of_form
  breaks_of_form place (Refused e) of_form at is = absurd of_form

  -- what a fault says stands where it says
  breaks_at_fault : (place : ℕ) (reason : Reason) (f : RecordingFault) → Breaks b place reason → ((reason ≡ f.reason) × (place ≡ f.place)) → Breaks b f.place f.reason
  breaks_at_fault place reason f breaks same = subst (λ (p : ℕ). Breaks b p f.reason) same.1 (subst (λ (r : Reason). Breaks b place r) same.0 breaks)

  -- a board that is made
  module _ (n k : ℕ) (rest : List ℕ) (first : first_command bytes ≡ Ok (commands.Make n k, rest)) (made : make_refusal n k true ≡ None) (f : RecordingFault) where
    abbrev M : Payload ℕ
    M = measured_payload (judge_in b) n

    abbrev z : Size
    z = measured_size (judge_in b) n k most_marks

    abbrev t : Transcript
    t = transcript_on (judge_in b) (some_in b) (all_in b) n k (new_contents M) (recording_at b + making_size) rest

    transcript_is_on_board : transcript_in b ≡ t
    transcript_is_on_board = by_board n k rest first None made

    three : rest ≡ drop making_size bytes
    three = let (none, x, same, whatever) = begins bytes _ first in sym (ap (drop making_size) same)

    -- the byte after the calls that were read
    after_calls : (place : ℕ) → place ≡ recording_at b + making_size + call_size * length t.calls → AfterCalls b place
    after_calls place at = (n, k, rest, first, made, at ∙ ap (λ (w : Transcript). recording_at b + making_size + call_size * length w.calls) (sym transcript_is_on_board))

    -- the byte after all calls, and the bytes from there on
    abbrev last : ℕ
    last = recording_at b + making_size + call_size * length (calls_in rest)

    abbrev tail : List ℕ
    tail = drop (call_size * length (calls_in rest)) rest

    -- the bytes after so many of the calls'
    there : (i place : ℕ) → place ≡ recording_at b + making_size + i → drop place b ≡ drop i rest
    there i place at = after_making (recording_at b) b rest three i place at

    -- What closes the calls of a board breaks off as it says, less than three bytes after them.
    closes : AfterCalls b last → (left : ℕ) (r : Result (Command × List ℕ) Reason) → first_command tail ≡ r → end_after_calls left last r ≡ Err f → (i : ℕ) × (i < call_size) × (f.place ≡ last + i) × Breaks b f.place f.reason
    closes at left (Err reason) is ends =
        let same = same_break reason last f ends in
        (0, omega arith, omega arith, breaks_at_fault last reason f (breaks_of_form last reason (begins tail _ is).1 (inr at) (ap first_command (there _ last refl) ∙ is)) same)
    closes at left (Ok (commands.End, [])) is ends = absurd (cc)
    closes at left (Ok (commands.End, x ∷ more)) is ends =
        let same = same_break BytesAfterEnd (last + 1) f ends in
        (1, omega arith, omega arith, breaks_at_fault (last + 1) BytesAfterEnd f (last, omega arith, at, x, more, ap first_command (there _ last refl) ∙ is) same)
    closes at left (Ok (commands.Make u v, more)) is ends =
        let same = same_break SecondBoard last f ends in
        (0, omega arith, omega arith, breaks_at_fault last SecondBoard f (at, u, v, more, ap first_command (there _ last refl) ∙ is) same)
    closes at left (Ok (commands.Call c, more)) is ends =
        let none = calls_after rest (calls_in rest) [] (sym (append-nil (calls_in rest))) in
        let (x, y, same, some) = begins tail _ is in
        absurd (cc)

    -- The calls of a board are those before the break, if it is less than three bytes after them.
    read_before : (i : ℕ) → i < call_size → f.place ≡ recording_at b + making_size + (call_size * length t.calls + i) → (after : List Call) → calls_in rest ≡ t.calls ++ after
        → t.calls ≡ calls_in (drop (recording_at b + making_size) (take f.place b))
    read_before i small at after is =
        sym (ap (λ (p : ℕ). calls_in (drop (recording_at b + making_size) (take p b))) at
        ∙ ap calls_in (drop-take (recording_at b + making_size) (call_size * length t.calls + i) b ∙ ap (take (call_size * length t.calls + i)) (sym (three ∙ drop-drop making_size (recording_at b) b)))
        ∙ calls_before i small rest t.calls after is)

    -- Where a board's calls break off, they are those before the break, and what stands there is a reason.
    on_board : t.end ≡ Err f → (t.calls ≡ calls_in (drop (recording_at b + making_size) (take f.place b))) × Breaks b f.place f.reason
    on_board ends =
        let left = left_among (contents_from M z (new_contents M) (calls_in rest)).posts k in
        elim (break_off M z (new_history M) (calls_in rest) (recording_at b + making_size) (end_after_calls left last (first_command tail)) f ends) [
          | inl (closes_so, whole) ↦
              let same : length t.calls ≡ length (calls_in rest) = ap length whole in
              let (i, small, at, breaks) = closes (after_calls last (omega arith)) left (first_command tail) refl closes_so in
              (read_before i small (omega arith) [] (sym whole ∙ sym (append-nil t.calls)), breaks)
          | inr (e, c, after, closes_so, refused_so, reason_is, at) ↦ (
            read_before 0 (omega arith) (omega arith) (c ∷ after) closes_so,
            subst (λ (reason : Reason). Breaks b f.place reason) reason_is (inr (
              after_calls f.place at,
              subst (λ (w : Transcript). RefusedCall b w f.place e) (sym transcript_is_on_board)
                  (c, after, ap calls_in (there _ f.place at) ∙ calls_after rest t.calls (c ∷ after) closes_so, refused_so),
            )),
          )
        ]

  module _ (f : RecordingFault) (ends : (transcript_in b).end ≡ Err f) where
    -- the calls read are those before the break, and what stands there is a reason
    abbrev Broke : Type 0
    Broke = ((transcript_in b).calls ≡ calls_in (drop (recording_at b + making_size) (take f.place b))) × Breaks b f.place f.reason

    -- what breaks off at once has no calls, and none before the break
    at_once : (reason : Reason) → transcript_in b ≡ empty_transcript (judge_in b) (some_in b) (all_in b) reason (recording_at b) → Breaks b (recording_at b) reason → Broke
    at_once reason is breaks =
        let same = same_break reason (recording_at b) f (sym (ap (λ (t : Transcript). t.end) is) ∙ ends) in
        let at : f.place ≡ recording_at b + 0 = omega arith in
        let none : drop (recording_at b + making_size) (take f.place b) ≡ [] =
        ap (λ (p : ℕ). drop (recording_at b + making_size) (take p b)) at ∙ sym (drop-drop making_size (recording_at b) (take (recording_at b + 0) b)) ∙ ap (drop making_size) (drop-take (recording_at b) 0 b) in
        (ap (λ (t : Transcript). t.calls) is ∙ ap calls_in (sym none), breaks_at_fault (recording_at b) reason f breaks same)

    by_making : (n k : ℕ) (rest : List ℕ) → first_command bytes ≡ Ok (commands.Make n k, rest) → (o : Option Refusal) → make_refusal n k true ≡ o → Broke
    by_making n k rest first (Some e) not = at_once (Refused e) (by_board n k rest first (Some e) not) (inl (refl, n, k, rest, first, not))
    by_making n k rest first None ok =
        let by_size = by_board n k rest first None ok in
        let (calls, breaks) = on_board n k rest first ok f (sym (ap (λ (t : Transcript). t.end) by_size) ∙ ends) in
        (ap (λ (t : Transcript). t.calls) by_size ∙ calls, breaks)

    by_first : (r : Result (Command × List ℕ) Reason) → first_command bytes ≡ r → Broke
    by_first (Err reason) is = at_once reason (ap (transcript_from (judge_in b) (some_in b) (all_in b) (recording_at b)) is) (breaks_of_form (recording_at b) reason (begins bytes _ is).1 (inl refl) is)
    by_first (Ok (commands.Make n k, rest)) is = by_making n k rest is (make_refusal n k true) refl
    by_first (Ok (commands.Call c, rest)) is =
        at_once NoBoard (ap (transcript_from (judge_in b) (some_in b) (all_in b) (recording_at b)) is) (refl, commands.Call c, rest, is, λ n k h. (cc))
    by_first (Ok (commands.End, rest)) is =
        at_once NoBoard (ap (transcript_from (judge_in b) (some_in b) (all_in b) (recording_at b)) is) (refl, commands.End, rest, is, λ n k h. (cc))

    -- The calls read are all that stand before the break.
    pub read_to : (transcript_in b).calls ≡ calls_in (drop (recording_at b + making_size) (take f.place b))
    read_to = (by_first (first_command bytes) refl).0

    -- And what stands there is a reason to break off.
    pub broke : Breaks b f.place f.reason
    broke = (by_first (first_command bytes) refl).1
