-- A call that a board refuses where a recording breaks off is none that could come next.
-- Where answers break a recording off with a refusal, the call after those read was refused with the contents that they lead to. The rules refuse only
-- what could not come next. And that call is the one that stands in the bytes there, since each call before it took three.
use Rattle.std.proofs.Common.{◌≡◌, ℕ, ◌+◌, ◌*◌, List, [], ◌∷◌, length, drop, Some, Ok, Err, Result, sym, ap, ◌∙◌, subst, inl, inr}
use Rattle.std.proofs.lemmas.Option.{none-some}
use Rattle.history.specs.declared.refusals.Refusal.{Refusal}
use Rattle.history.specs.Events.{Logs}
use Rattle.history.specs.Rows.{Payload}
use Rattle.history.specs.Runs.{Size, Possible, by_unit}
use Rattle.history.specs.declared.calls.Call.{Call}
use Rattle.history.specs.Board.{new_history, new_contents, outcomes_from, refusal, run, contents_from}
use Rattle.history.proofs.Promises.{accepts_runs}
use Rattle.history.specs.Limits.{most_marks}
use Rattle.causality.specs.Boards.{left_among}
use Rattle.measures.specs.Worths.{measured_payload, measured_size}
use Rattle.reports.specs.declared.commands.Command.{Command}
use Rattle.reports.specs.declared.commands.Command.TheVariants as commands
use Rattle.reports.specs.declared.faults.Reason.{Reason}
use Rattle.reports.specs.declared.faults.Reason.TheVariants.{NoBoard, SecondBoard, BytesAfterEnd, Refused}
use Rattle.reports.specs.declared.faults.RecordingFault.{RecordingFault}
use Rattle.reports.specs.Commands.{making_size, call_size, first_command, calls_in}
use Rattle.reports.specs.Faults.{fault_at}
use Rattle.reports.specs.Recordings.{Transcript, end_after_calls, ending, transcript_from, empty_transcript, transcript_on}
use Rattle.reports.specs.Reports.{judge_in, some_in, all_in, recording_at, transcript_in}
use Rattle.reports.proofs.BreakFacts.{break_off}
use Rattle.reports.proofs.CallFacts.{after_making, calls_after}
use Rattle.reports.proofs.CutFacts.{same_break}
use Rattle.reports.proofs.FirstCommandFacts.{begins, begins_call}
use Rattle.reports.proofs.LastMarkFacts.{log_is}
use Rattle.reports.proofs.TranscriptFacts.{reads, reads_taken, transcript_cases}

-- Bytes that close a recording refuse nothing.
end_after_calls-refuses_nothing : (left place : ℕ) (r : Result (Command × List ℕ) Reason) (e : Refusal) (p : ℕ) → (r ≡ Err (Refused e) → ⊥) → end_after_calls left place r ≡ Err (fault_at (Refused e) p) → ⊥
end_after_calls-refuses_nothing left place (Err reason) e p none ends = none (ap (λ (x : Reason). Err x) (same_break reason place (fault_at (Refused e) p) ends).0)
end_after_calls-refuses_nothing left place (Ok (commands.End, [])) e p none ends = cc
end_after_calls-refuses_nothing left place (Ok (commands.End, x ∷ rest)) e p none ends = let s = (same_break BytesAfterEnd (place + 1) (fault_at (Refused e) p) ends).0 in cc
end_after_calls-refuses_nothing left place (Ok (commands.Make n k, rest)) e p none ends = let s = (same_break SecondBoard place (fault_at (Refused e) p) ends).0 in cc
end_after_calls-refuses_nothing left place (Ok (commands.Call c, rest)) e p none ends = let s = (same_break SecondBoard place (fault_at (Refused e) p) ends).0 in cc

module _ (M : Payload ℕ) (z : Size) (bytes : List ℕ) where
  -- the calls that were read
  abbrev seen : List Call
  seen = reads M z (new_contents M) (calls_in bytes)

  -- A call that is refused after them is none that could come next.
  refused_impossible : (c : Call) (e : Refusal) → refusal M z (run M z seen).contents c.unit c.event ≡ Some e → Possible z (by_unit seen) c.unit c.event → ⊥
  refused_impossible c e refused_so could =
      let ok = ((accepts_runs M z seen).next_call c.unit c.event).1 (subst (λ (logs : Logs). Possible z logs c.unit c.event) (sym (log_is M z seen (reads_taken M z (new_history M) (calls_in bytes)))) could) in
      none-some e (sym ok ∙ refused_so)

  -- So it is of the call that stands where the answers break a recording off.
  broken_impossible : (place : ℕ) (closing : Result ℕ RecordingFault) (e : Refusal) (at : ℕ) → (closing ≡ Err (fault_at (Refused e) at) → ⊥)
      → ending place (outcomes_from M z (new_contents M) (calls_in bytes)) closing ≡ Err (fault_at (Refused e) at)
      → (c : Call) (cs : List Call) → ((i : ℕ) → at ≡ place + i → calls_in (drop i bytes) ≡ c ∷ cs) → Possible z (by_unit seen) c.unit c.event → ⊥
  broken_impossible place closing e at other is c cs here could =
      elim (break_off M z (new_history M) (calls_in bytes) place closing (fault_at (Refused e) at) is) [
        | inl (closes, all_read) ↦ absurd (other closes)
        | inr (x, d, after, split, refused_so, reason, there) ↦
            let same : d ≡ c = let stands = calls_after bytes seen (d ∷ after) split in let stands_too = here (call_size * length seen) there in cc in
            refused_impossible c x (subst (λ (a : Call). refusal M z (run M z seen).contents a.unit a.event ≡ Some x) same refused_so) could
      ]

module _ (b : List ℕ) where
  abbrev bytes : List ℕ
  bytes = drop (recording_at b) b

  -- where it breaks off with a refusal, the call there is none that could come next
  abbrev RefusedIn : Transcript → Type 0
  RefusedIn t =
      (e : Refusal) (place : ℕ) → t.end ≡ Err (fault_at (Refused e) place) → (c : Call) (cs : List Call) → calls_in (drop place b) ≡ c ∷ cs
      → Possible (measured_size (judge_in b) t.units t.messages most_marks) (by_unit t.calls) c.unit c.event → ⊥

  -- So it is of a recording that breaks off before any call, since no call comes first.
  on_nothing : (reason : Reason) → transcript_in b ≡ empty_transcript (judge_in b) (some_in b) (all_in b) reason (recording_at b) → RefusedIn (empty_transcript (judge_in b) (some_in b) (all_in b) reason (recording_at b))
  on_nothing reason is_nothing e place is c cs here could =
      let (same_reason, at) = same_break reason (recording_at b) (fault_at (Refused e) place) is in
      let (x, rest, first) = begins_call bytes c cs (ap (λ (i : ℕ). calls_in (drop i b)) at ∙ here) in
      let by_first = ap (transcript_from (judge_in b) (some_in b) (all_in b) (recording_at b)) first in
      let same = (same_break NoBoard (recording_at b) (fault_at reason (recording_at b)) (sym (ap (λ (y : Transcript). y.end) by_first) ∙ ap (λ (y : Transcript). y.end) is_nothing)).0 in
      cc

  -- And so it is on a board.
  on_board : (n k : ℕ) (rest : List ℕ) → rest ≡ drop making_size bytes → RefusedIn (transcript_on (judge_in b) (some_in b) (all_in b) n k (new_contents (measured_payload (judge_in b) n)) (recording_at b + making_size) rest)
  on_board n k rest three e place is c cs here could =
      let M = measured_payload (judge_in b) n in
      let z = measured_size (judge_in b) n k most_marks in
      let all = calls_in rest in
      let tail = drop (call_size * length all) rest in
      let left = left_among (contents_from M z (new_contents M) all).posts k in
      let end = recording_at b + making_size + call_size * length all in
      broken_impossible M z rest (recording_at b + making_size) (end_after_calls left end (first_command tail)) e place (end_after_calls-refuses_nothing left end (first_command tail) e place (λ here. (begins tail (Err (Refused e)) here).1)) is c cs
      (λ i at. ap calls_in (sym (after_making (recording_at b) b rest three i place at)) ∙ here) could

  -- A call that is refused, where a recording breaks off, is none that could come next.
  pub refused : RefusedIn (transcript_in b)
  refused = elim (transcript_cases (judge_in b) (some_in b) (all_in b) (recording_at b) bytes) [
    | inl (reason, t) ↦ subst RefusedIn (sym t) (on_nothing reason t)
    | inr (n, k, rest, f, _, t) ↦ subst RefusedIn (sym t) (on_board n k rest (let (none, x, same, whatever) = begins bytes _ f in sym (ap (drop making_size) same)))
  ]
