-- Where a recording breaks off, it is cut there (`Cut`): what agrees with it up to the break comes to the same calls and lines first.
-- By induction on three bytes at a time. Bytes that begin with no call, or with one that is refused, come to no call and no line, and break off at
-- once, or one byte later after an end; a call that is accepted has its line before a recording in the next state, which breaks off later.
use Rattle.std.proofs.Common.{◌≡◌, ℕ, ◌+◌, ◌≤◌, Bool, List, [], ◌∷◌, length, drop, Ok, Err, Result, Some, None, Option, refl, sym, ap, ◌∙◌, subst, inl, inr, arith}
use Rattle.history.specs.declared.refusals.Refusal.{Refusal}
use Rattle.history.specs.Board.{Contents, next_contents, new_contents, outcome}
use Rattle.history.specs.declared.calls.Answer.{Answer}
use Rattle.history.specs.declared.calls.Event.{Event}
use Rattle.history.specs.Limits.{most_marks}
use Rattle.causality.specs.Boards.{left_among}
use Rattle.history.specs.Runs.{call}
use Rattle.measures.specs.Measures.{Meaning}
use Rattle.measures.specs.Worths.{measured_payload, measured_size}
use Rattle.reports.specs.declared.commands.Command.{Command}
use Rattle.reports.specs.declared.commands.Command.TheVariants as commands
use Rattle.reports.specs.declared.faults.Reason.{Reason}
use Rattle.reports.specs.declared.faults.Reason.TheVariants.{SecondBoard, BytesAfterEnd, Refused}
use Rattle.reports.specs.declared.faults.RecordingFault.{RecordingFault}
use Rattle.reports.specs.Commands.{making_size, call_size, first_command, event_in, calls_with_first, calls_in}
use Rattle.reports.specs.Faults.{fault_at}
use Rattle.reports.specs.Recordings.{Transcript, end_after_calls, line, transcript_on, transcript_of_board, transcript_from, transcript}
use Rattle.reports.proofs.CallFacts.{end_transcript, transcript_with, transcript_on-no_call, transcript_on-refused, transcript_on-accepted}
use Rattle.reports.proofs.CutFacts.{Cut, Silent, same_break, silent_cut, later_cut}
use Rattle.reports.proofs.FirstCommandFacts.{begins}
use Rattle.reports.proofs.PrefixFacts.{AgreeTo, agree_rest}
use Rattle.reports.proofs.TranscriptFacts.{transcript_cases}

module _ (m : Meaning ℕ) (some all : ℕ → Bool) where
  module _ (n k : ℕ) where
    abbrev on : Contents ℕ → ℕ → List ℕ → Transcript
    on s place bytes = transcript_on m some all n k s place bytes

    module _ (s : Contents ℕ) (place : ℕ) (f : RecordingFault) where
      -- what has no call breaks off where all that agree so far come to what their further bytes do
      silent_on : (bytes : List ℕ) (size : ℕ) (end : Result ℕ RecordingFault) (further : List ℕ → Transcript) → f.place ≡ place + size → size ≤ length bytes
          → on s place bytes ≡ end_transcript n k end → Silent (further []) → ((other : List ℕ) → AgreeTo size bytes other → on s place other ≡ further (drop size other))
          → Cut (on s place) place bytes f
      silent_on bytes size end further at within is no_more same =
          silent_cut (on s place) further place bytes f size at within (ap (λ (t : Transcript). t.calls) is, ap (λ (t : Transcript). t.lines) is) no_more same

      -- so it does at once
      at_once : (bytes : List ℕ) (r : Reason) → on s place bytes ≡ end_transcript n k (Err (fault_at r place)) → (on s place bytes).end ≡ Err f → Cut (on s place) place bytes f
      at_once bytes r is ends =
          let at = (same_break r place f (sym (ap (λ (t : Transcript). t.end) is) ∙ ends)).1 in
          silent_on bytes 0 (Err (fault_at r place)) (on s place) (omega arith) (omega arith) is (refl, refl) (λ other agree. refl)

      -- bytes that begin with no call break off at once, or after an end
      bare : (bytes : List ℕ) → calls_in bytes ≡ [] → (on s place bytes).end ≡ Err f → Cut (on s place) place bytes f
      bare bytes none ends = by_first bytes (first_command bytes) refl (transcript_on-no_call m some all n k s place bytes none) ends
        where
          by_first : (bytes : List ℕ) (r : Result (Command × List ℕ) Reason) → first_command bytes ≡ r → on s place bytes ≡ end_transcript n k (end_after_calls (left_among s.posts k) place r)
              → (on s place bytes).end ≡ Err f → Cut (on s place) place bytes f
          by_first bytes (Err reason) first is ends = at_once bytes reason is ends
          by_first bytes (Ok (commands.Make i j, ys)) first is ends = at_once bytes SecondBoard is ends
          by_first bytes (Ok (commands.Call c, ys)) first is ends = at_once bytes SecondBoard is ends
          by_first bytes (Ok (commands.End, [])) first is ends = let end = ap (λ (t : Transcript). t.end) is in absurd (cc)
          by_first [] (Ok (commands.End, y ∷ ys)) first is ends = absurd (cc)
          by_first (b ∷ rest) (Ok (commands.End, y ∷ ys)) first is ends =
              let at = (same_break BytesAfterEnd (place + 1) f (sym (ap (λ (t : Transcript). t.end) is) ∙ ends)).1 in
              silent_on (b ∷ rest) 1 _ (λ l. on s place (b ∷ l)) (sym at) (omega arith) is (refl, refl) (λ other agree.
              (let (more, same, rest_agrees) = agree_rest b rest other 0 agree in
              ap (on s place) same ∙ ap (λ (l : List ℕ). on s place (b ∷ drop 1 l)) (sym same)))

    -- whatever the contents, and wherever they begin, these bytes break off so
    abbrev Breaking : List ℕ → RecordingFault → Type 0
    Breaking bytes f = (s : Contents ℕ) (place : ℕ) → (on s place bytes).end ≡ Err f → Cut (on s place) place bytes f

    -- where the transcript on a board breaks off, it is cut there
    transcript_on_cut : (s : Contents ℕ) (place : ℕ) (bytes : List ℕ) (f : RecordingFault) → (on s place bytes).end ≡ Err f → Cut (on s place) place bytes f
    transcript_on_cut s place [] f ends = bare s place f [] refl ends
    transcript_on_cut s place (b ∷ []) f ends = bare s place f (b ∷ []) refl ends
    transcript_on_cut s place (b ∷ (u ∷ [])) f ends = bare s place f (b ∷ u ∷ []) refl ends
    transcript_on_cut s place (b ∷ (u ∷ (x ∷ rest))) f ends = by_event (event_in b x) refl (λ t p. transcript_on_cut t p rest f)
      where
        by_answer : (e : Event) → event_in b x ≡ Some e → (r : Result (Answer ℕ) Refusal) → outcome (measured_payload m n) (measured_size m n k most_marks) s (call u e) ≡ r → Breaking rest f
            → Cut (on s place) place (b ∷ u ∷ x ∷ rest) f
        by_answer e is (Ok a) answered later =
            let t = next_contents (measured_payload m n) (measured_size m n k most_marks) s (call u e) in
            let transcript_is : (ys : List ℕ) → on s place (b ∷ u ∷ x ∷ ys) ≡ transcript_with (call u e ∷ []) (line m some all u a) (on t (place + call_size) ys) =
            λ ys. transcript_on-accepted m some all n k s place (b ∷ u ∷ x ∷ ys) (call u e) ys (ap (λ (o : Option Event). calls_with_first u o (calls_in ys)) is) b u x refl a answered in
            later_cut (on s place) (on t (place + call_size)) place b u x (call u e ∷ []) (line m some all u a) transcript_is rest f
            (later t (place + call_size) (sym (ap (λ (t : Transcript). t.end) (transcript_is rest)) ∙ ends))
        by_answer e is (Err r) answered later =
            at_once s place f (b ∷ u ∷ x ∷ rest) (Refused r)
            (transcript_on-refused m some all n k s place (b ∷ u ∷ x ∷ rest) (call u e) rest (ap (λ (o : Option Event). calls_with_first u o (calls_in rest)) is) r answered) ends

        by_event : (o : Option Event) → event_in b x ≡ o → Breaking rest f → Cut (on s place) place (b ∷ u ∷ x ∷ rest) f
        by_event None is later = bare s place f (b ∷ u ∷ x ∷ rest) (ap (λ (o : Option Event). calls_with_first u o (calls_in rest)) is) ends
        by_event (Some e) is later = by_answer e is (outcome (measured_payload m n) (measured_size m n k most_marks) s (call u e)) refl later

  -- where a recording breaks off, it is cut there
  pub transcript_cut : (place : ℕ) (bytes : List ℕ) (f : RecordingFault) → (transcript m some all place bytes).end ≡ Err f → Cut (transcript m some all place) place bytes f
  transcript_cut place bytes f ends = elim (transcript_cases m some all place bytes) [
    | inl (reason, is) ↦
        let at = (same_break reason place f (sym (ap (λ (t : Transcript). t.end) is) ∙ ends)).1 in
        silent_cut (transcript m some all place) (transcript m some all place) place bytes f 0 (omega arith) (omega arith)
        (ap (λ (t : Transcript). t.calls) is, ap (λ (t : Transcript). t.lines) is) (refl, refl) (λ other agree. refl)
    | inr (n, k, rest, first, good, is) ↦
        let (none, b, same, whatever) = begins bytes _ first in
        let further = transcript_on m some all n k (new_contents (measured_payload m n)) (place + making_size) in
        let transcript_is : (zs : List ℕ) → transcript m some all place (b ∷ n ∷ k ∷ zs) ≡ further zs =
        λ zs. ap (transcript_from m some all place) (whatever zs) ∙ ap (transcript_of_board m some all n k place zs) good in
        subst (λ (l : List ℕ). Cut (transcript m some all place) place l f) (sym same)
        (later_cut (transcript m some all place) further place b n k [] [] transcript_is rest f (transcript_on_cut n k (new_contents (measured_payload m n)) (place + making_size) rest f (sym (ap (λ (t : Transcript). t.end) is) ∙ ends)))
  ]
