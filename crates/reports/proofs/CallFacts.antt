-- The calls that some bytes begin with, of three bytes each, and what they come to on a board, call by call.
-- Where bytes begin with one call more, a transcript is that of the rest with the call and its line before it, or it ends with the call's refusal;
-- where they begin with none, it is the end that the first command makes. All later proofs go by these three.
use Rattle.std.proofs.Common.{◌≡◌, ℕ, zero, suc, ◌+◌, ◌*◌, ◌<◌, Bool, List, [], ◌∷◌, ◌++◌, length, drop, take, Some, None, Ok, Err, Option, Result, refl, sym, ap, ◌∙◌, arith}
use Rattle.std.proofs.lemmas.List.{drop-drop}
use Rattle.history.specs.declared.refusals.Refusal.{Refusal}
use Rattle.history.specs.Board.{Contents, next_contents, outcome, outcomes_from, contents_from}
use Rattle.history.specs.declared.calls.Answer.{Answer}
use Rattle.history.specs.declared.calls.Event.{Event}
use Rattle.history.specs.Rows.{Payload}
use Rattle.history.specs.Runs.{Size}
use Rattle.history.specs.declared.calls.Call.{Call}
use Rattle.history.specs.Limits.{most_marks}
use Rattle.causality.specs.Boards.{left_among}
use Rattle.measures.specs.Measures.{Meaning}
use Rattle.measures.specs.Worths.{measured_payload, measured_size}
use Rattle.reports.specs.declared.faults.Reason.TheVariants.{Refused}
use Rattle.reports.specs.declared.faults.RecordingFault.{RecordingFault}
use Rattle.reports.specs.declared.lines.MarkLine.{MarkLine}
use Rattle.reports.specs.Commands.{call_size, making_size, first_command, event_in, calls_with_first, calls_in}
use Rattle.reports.specs.Faults.{fault_at}
use Rattle.reports.specs.Recordings.{Transcript, end_after_calls, ending, calls_before_refusal, line, lines, transcript_on}

-- What comes after a call and n more is what comes after these n.
drop-call : (n b u x : ℕ) (rest : List ℕ) → drop (call_size * suc n) (b ∷ (u ∷ (x ∷ rest))) ≡ drop (call_size * n) rest
drop-call n b u x rest = let three : call_size * suc n ≡ suc (suc (suc (call_size * n))) = omega arith in ap (λ (i : ℕ). drop i (b ∷ (u ∷ (x ∷ rest)))) three

-- The calls after the first are those in the bytes after it.
first_call_rest : (u : ℕ) (o : Option Event) (cs : List Call) (c : Call) (ds : List Call) → calls_with_first u o cs ≡ c ∷ ds → cs ≡ ds
first_call_rest u None cs c ds same = absurd (cc)
first_call_rest u (Some e) cs c ds same = cc

-- After the first of the calls, three bytes further on for each, stand the others.
pub calls_after : (bytes : List ℕ) (before after : List Call) → calls_in bytes ≡ before ++ after → calls_in (drop (call_size * length before) bytes) ≡ after
calls_after bytes [] after split = split
calls_after [] (c ∷ before) after split = absurd (cc)
calls_after (b ∷ []) (c ∷ before) after split = absurd (cc)
calls_after (b ∷ (u ∷ [])) (c ∷ before) after split = absurd (cc)
calls_after (b ∷ (u ∷ (x ∷ rest))) (c ∷ before) after split =
    ap calls_in (drop-call (length before) b u x rest) ∙ calls_after rest before after (first_call_rest u (event_in b x) (calls_in rest) c (before ++ after) split)

-- So many bytes after a making stand so many bytes of the rest.
pub after_making : (from : ℕ) (b rest : List ℕ) → rest ≡ drop making_size (drop from b) → (i place : ℕ) → place ≡ from + making_size + i → drop place b ≡ drop i rest
after_making from b rest is i place at =
    sym (ap (drop i) is ∙ drop-drop i making_size (drop from b) ∙ drop-drop (making_size + i) from b ∙ ap (λ (j : ℕ). drop j b) (omega arith))

-- Fewer than three bytes have no call.
few_bytes : (i : ℕ) → i < call_size → (bytes : List ℕ) → calls_in (take i bytes) ≡ []
few_bytes zero small bytes = refl
few_bytes (suc i) small [] = refl
few_bytes (suc zero) small (b ∷ rest) = refl
few_bytes (suc (suc i)) small (b ∷ []) = refl
few_bytes (suc (suc zero)) small (b ∷ (u ∷ rest)) = refl
few_bytes (suc (suc (suc i))) small (b ∷ (u ∷ rest)) = absurd (omega arith)

-- Up to the first of the calls, three bytes for each, and fewer than three bytes more, stand just these.
pub calls_before : (i : ℕ) → i < call_size → (bytes : List ℕ) (before after : List Call) → calls_in bytes ≡ before ++ after → calls_in (take (call_size * length before + i) bytes) ≡ before
calls_before i small bytes [] after split = ap (λ (n : ℕ). calls_in (take n bytes)) (omega arith) ∙ few_bytes i small bytes
calls_before i small [] (c ∷ before) after split = absurd (cc)
calls_before i small (b ∷ []) (c ∷ before) after split = absurd (cc)
calls_before i small (b ∷ (u ∷ [])) (c ∷ before) after split = absurd (cc)
calls_before i small (b ∷ (u ∷ (x ∷ rest))) (c ∷ before) after split =
    let three : call_size * suc (length before) + i ≡ suc (suc (suc (call_size * length before + i))) = omega arith in
    ap (λ (n : ℕ). calls_in (take n (b ∷ (u ∷ (x ∷ rest))))) three
    ∙ one (event_in b x) split (calls_before i small rest before after (first_call_rest u (event_in b x) (calls_in rest) c (before ++ after) split))
  where
    one : (o : Option Event) → calls_with_first u o (calls_in rest) ≡ c ∷ (before ++ after) → calls_in (take (call_size * length before + i) rest) ≡ before
        → calls_with_first u o (calls_in (take (call_size * length before + i) rest)) ≡ c ∷ before
    one None same earlier = absurd (cc)
    one (Some x) same earlier = cc

-- the transcript of a board that was handed no call
abbrev pub end_transcript : ℕ → ℕ → Result ℕ RecordingFault → Transcript
end_transcript n k end = record { units = n; messages = k; calls = []; lines = []; end = end }

-- a transcript with some calls and lines before it
abbrev pub transcript_with : List Call → List MarkLine → Transcript → Transcript
transcript_with cs ls t = record { units = t.units; messages = t.messages; calls = cs ++ t.calls; lines = ls ++ t.lines; end = t.end }

module _ (m : Meaning ℕ) (some all : ℕ → Bool) (n k : ℕ) (s : Contents ℕ) (place : ℕ) (bytes : List ℕ) where
  abbrev M : Payload ℕ
  M = measured_payload m n

  abbrev z : Size
  z = measured_size m n k most_marks

  -- the transcript if the bytes begin with these calls, which are answered so, and lead to these contents
  abbrev transcript_by_answers : List Call → List (Result (Answer ℕ) Refusal) → Contents ℕ → Transcript
  transcript_by_answers cs xs t = record {
    units = n;
    messages = k;
    calls = calls_before_refusal cs xs;
    lines = lines m some all cs xs;
    end = ending place xs (end_after_calls (left_among t.posts k) (place + call_size * length cs) (first_command (drop (call_size * length cs) bytes)));
  }

  -- the transcript if the bytes begin with these calls
  abbrev transcript_of_calls : List Call → Transcript
  transcript_of_calls cs = transcript_by_answers cs (outcomes_from M z s cs) (contents_from M z s cs)

  -- Where there are no calls, the bytes close the recording.
  pub transcript_on-no_call : calls_in bytes ≡ [] → transcript_on m some all n k s place bytes ≡ end_transcript n k (end_after_calls (left_among s.posts k) place (first_command bytes))
  transcript_on-no_call none = ap transcript_of_calls none ∙ ap (λ (p : ℕ). end_transcript n k (end_after_calls (left_among s.posts k) p (first_command bytes))) (omega arith)

  module _ (c : Call) (rest : List ℕ) (first : calls_in bytes ≡ c ∷ calls_in rest) where
    -- the transcript if the first call is answered so
    abbrev transcript_by : Result (Answer ℕ) Refusal → Transcript
    transcript_by r = transcript_by_answers (c ∷ calls_in rest) (r ∷ outcomes_from M z (next_contents M z s c) (calls_in rest)) (contents_from M z (next_contents M z s c) (calls_in rest))

    -- A call that is refused breaks the recording off.
    pub transcript_on-refused : (e : Refusal) → outcome M z s c ≡ Err e → transcript_on m some all n k s place bytes ≡ end_transcript n k (Err (fault_at (Refused e) place))
    transcript_on-refused e refused = ap transcript_of_calls first ∙ ap transcript_by refused

    -- After one that is accepted the recording goes on.
    pub transcript_on-accepted : (b u x : ℕ) → bytes ≡ b ∷ (u ∷ (x ∷ rest)) → (a : Answer ℕ) → outcome M z s c ≡ Ok a
        → transcript_on m some all n k s place bytes ≡ transcript_with (c ∷ []) (line m some all c.unit a) (transcript_on m some all n k (next_contents M z s c) (place + call_size) rest)
    transcript_on-accepted b u x is a accepted =
        let more = length (calls_in rest) in
        let further : place + call_size * suc more ≡ place + call_size + call_size * more = omega arith in
        let after : drop (call_size * suc more) bytes ≡ drop (call_size * more) rest = ap (drop (call_size * suc more)) is ∙ drop-call more b u x rest in
        ap transcript_of_calls first ∙ ap transcript_by accepted ∙ rw (further, after) refl
