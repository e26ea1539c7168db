-- A recording that is read command by command: what is written so far, and what the rest comes to.
-- The loop keeps `Reached`: text so far and lines of the rest are the lines of the whole, and the rest ends as the whole does. An accepted call moves
-- one line from the rest to the text; every other command ends the rest with no lines, so the text is whole.
use Rattle.std.proofs.Common.{◌≡◌, ℕ, ◌+◌, Bool, true, List, [], ◌∷◌, ◌++◌, Some, None, Ok, Err, Option, Result, sym, refl, ap, ◌∙◌, subst, append_assoc, append-nil}
use Rattle.history.specs.declared.refusals.Refusal.{Refusal}
use Rattle.history.specs.Board.{Contents, next_contents}
use Rattle.history.specs.declared.calls.Answer.{Answer}
use Rattle.history.specs.declared.calls.Call.{Call}
use Rattle.history.specs.declared.calls.Answer.TheVariants.{Sent, Received, Marked}
use Rattle.history.specs.Limits.{most_marks}
use Rattle.causality.specs.Boards.{Memory, Shows, left_among, FollowsRules, Obeys, has_room, setup}
use Rattle.measures.specs.Measures.{Meaning}
use Rattle.measures.specs.Worths.{measured_payload, measured_size, measured_rules}
use Rattle.reports.specs.declared.commands.Command.{Command}
use Rattle.reports.specs.declared.commands.Command.TheVariants as commands
use Rattle.reports.specs.declared.faults.Reason.{Reason}
use Rattle.reports.specs.declared.faults.Reason.TheVariants.{SecondBoard, Refused}
use Rattle.reports.specs.declared.faults.RecordingFault.{RecordingFault}
use Rattle.reports.specs.declared.lines.MarkLine.{MarkLine}
use Rattle.reports.specs.Commands.{call_size, first_command, calls_in}
use Rattle.reports.specs.Faults.{fault_at}
use Rattle.reports.specs.Lines.{mark_text, mark_lines}
use Rattle.text.specs.Lines.{line_of}
use Rattle.reports.specs.Recordings.{Transcript, end_after_calls, line, mark_line, transcript_on}
use Rattle.reports.specs.Steps.{answer_line, Wrote}
use Rattle.reports.proofs.CallFacts.{end_transcript, transcript_on-no_call, transcript_on-refused, transcript_on-accepted}
use Rattle.reports.proofs.FirstCommandFacts.{begins}

mark_lines_append : (xs ys : List MarkLine) → mark_lines (xs ++ ys) ≡ mark_lines xs ++ mark_lines ys
mark_lines_append [] ys = refl
mark_lines_append (l ∷ xs) ys = ap (λ (t : List ℕ). line_of (mark_text l) ++ t) (mark_lines_append xs ys) ∙ sym (append_assoc (line_of (mark_text l)) (mark_lines xs) (mark_lines ys))

-- the line of a mark, if there is one
abbrev pub option_lines : Option MarkLine → List MarkLine
option_lines None = []
option_lines (Some l) = l ∷ []

module _ (m : Meaning ℕ) (some all : ℕ → Bool) (u : ℕ) where
  -- a call whose line is answered was accepted with that line
  answer_line-ok : (x : Result (Answer ℕ) Refusal) (o : Option MarkLine) → Ok o ≡ answer_line some all u x → (a : Answer ℕ) × (x ≡ Ok a) × (line m some all u a ≡ option_lines o)
  answer_line-ok (Ok (Sent clock)) None e = (Sent clock, refl, refl)
  answer_line-ok (Ok (Sent clock)) (Some l) e = absurd (cc)
  answer_line-ok (Ok (Received clock)) None e = (Received clock, refl, refl)
  answer_line-ok (Ok (Received clock)) (Some l) e = absurd (cc)
  answer_line-ok (Ok (Marked x)) None e = absurd (cc)
  answer_line-ok (Ok (Marked x)) (Some l) e = let same : mark_line some all u x ≡ l = cc in (Marked x, refl, ap (λ (t : MarkLine). t ∷ []) same)
  answer_line-ok (Err f) o e = absurd (cc)

  -- and one that breaks the recording off was refused for that reason
  answer_line-err : (x : Result (Answer ℕ) Refusal) (r : Reason) → Err r ≡ answer_line some all u x → (f : Refusal) × (x ≡ Err f) × (Refused f ≡ r)
  answer_line-err (Ok (Sent clock)) r e = absurd (cc)
  answer_line-err (Ok (Received clock)) r e = absurd (cc)
  answer_line-err (Ok (Marked x)) r e = absurd (cc)
  answer_line-err (Err f) r e = (f, refl, cc)

-- A board of n units and k messages that shows the contents s is handed the bytes that begin at the byte `from`. What is written, and the lines that the
-- rest comes to, are the lines of the whole; and the rest ends as the whole does. The memory shows the contents that the calls so far lead to.
pub record Reached (m : Meaning ℕ) (some all : ℕ → Bool) (n k : ℕ) (s : Contents ℕ) (from : ℕ) (bytes old : List ℕ) (memory : Memory ℕ) (out : List ℕ) (place : ℕ) (rest : List ℕ) : Type 0 where
  pub contents : Contents ℕ
  pub shows : Shows m.start n k memory contents
  pub text : out ++ mark_lines (transcript_on m some all n k contents place rest).lines ≡ old ++ mark_lines (transcript_on m some all n k s from bytes).lines
  pub end : (transcript_on m some all n k contents place rest).end ≡ (transcript_on m some all n k s from bytes).end

module _ {m : Meaning ℕ} {some all : ℕ → Bool} {n k : ℕ} {s : Contents ℕ} {from : ℕ} {bytes old : List ℕ} {memory : Memory ℕ} {out : List ℕ} {place : ℕ} {rest : List ℕ}
    (reached : Reached m some all n k s from bytes old memory out place rest) where
  abbrev on : Contents ℕ → ℕ → List ℕ → Transcript
  on = transcript_on m some all n k

  -- where the rest has no lines, all is written, and the whole ends as the rest does
  stops : (r : Result ℕ RecordingFault) → on reached.contents place rest ≡ end_transcript n k r → Wrote old out (on s from bytes) r
  stops r is =
      (sym (append-nil out) ∙ ap (λ (t : Transcript). out ++ mark_lines t.lines) (sym is) ∙ reached.text, ap (λ (t : Transcript). t.end) (sym is) ∙ reached.end)

  -- and where it has no calls, as the first command closes it
  over : (r : Result (Command × List ℕ) Reason) → first_command rest ≡ r → calls_in rest ≡ [] → Wrote old out (on s from bytes) (end_after_calls (left_among reached.contents.posts k) place r)
  over r is none =
      stops (end_after_calls (left_among reached.contents.posts k) place r)
      (transcript_on-no_call m some all n k reached.contents place rest none ∙ ap (λ (c : Result (Command × List ℕ) Reason). end_transcript n k (end_after_calls (left_among reached.contents.posts k) place c)) is)

  ends : (r t : Result ℕ RecordingFault) → t ≡ r → Wrote old out (on s from bytes) r → Wrote old out (on s from bytes) t
  ends r t same (text, end) = (text, same ∙ end)

  -- The end.
  pub closes : {more : List ℕ} → first_command rest ≡ Ok (commands.End, more) → (t : Result ℕ RecordingFault)
      → ((s : Contents ℕ) → Shows m.start n k memory s → t ≡ end_after_calls (left_among s.posts k) place (Ok (commands.End, more))) → Wrote old out (on s from bytes) t
  closes {more} is t so = ends _ t (so reached.contents reached.shows) (over (Ok (commands.End, more)) is (begins rest (Ok (commands.End, more)) is))

  -- A command that is missing,
  pub missing : (r : Reason) → first_command rest ≡ Err r → (t : Result ℕ RecordingFault) → t ≡ Err (fault_at r place) → Wrote old out (on s from bytes) t
  missing r is t so = ends _ t so (over (Err r) is (begins rest (Err r) is).0)

  -- a second board,
  pub second : {u v : ℕ} {more : List ℕ} → first_command rest ≡ Ok (commands.Make u v, more) → (t : Result ℕ RecordingFault) → t ≡ Err (fault_at SecondBoard place) → Wrote old out (on s from bytes) t
  second {u} {v} {more} is t so = ends _ t so (over (Ok (commands.Make u v, more)) is (begins rest (Ok (commands.Make u v, more)) is).0)

  module _ {c : Call} {more : List ℕ} (first : first_command rest ≡ Ok (commands.Call c, more)) (there : has_room n k memory ≡ true) {new : Memory ℕ} {x : Result (Answer ℕ) Refusal}
      (obeys : Obeys (setup (measured_rules m) n k) c memory new x) {t : Result (Option MarkLine) Reason} (said : t ≡ answer_line some all c.unit x) where
    o : FollowsRules (measured_payload m n) (measured_size m n k most_marks) c true memory new x
    o = subst (λ (r : Bool). FollowsRules (measured_payload m n) (measured_size m n k most_marks) c r memory new x) there obeys.follows

    -- and a call that is refused break the recording off.
    pub refuses : (r : Reason) → t ≡ Err r → (result : Result ℕ RecordingFault) → result ≡ Err (fault_at r place) → Wrote old out (on s from bytes) result
    refuses r refused result so =
        let (e, is, why) = answer_line-err m some all c.unit x r (sym refused ∙ said) in
        let (b, v, bytes, calls) = begins rest (Ok (commands.Call c, more)) first in
        ends (Err (fault_at r place)) result so (stops (Err (fault_at r place))
        (transcript_on-refused m some all n k reached.contents place rest c more calls e (sym (o.answer reached.contents reached.shows) ∙ is)
        ∙ ap (λ (q : Reason). end_transcript n k (Err (fault_at q place))) why))

    -- One that is accepted is followed by the rest, once its line is written.
    pub accepts : (l : Option MarkLine) → t ≡ Ok l → (wrote : List ℕ) → wrote ≡ out ++ mark_lines (option_lines l) → Reached m some all n k s from bytes old new wrote (place + call_size) more
    accepts l accepted_so wrote is =
        let (a, same, own) = answer_line-ok m some all c.unit x l (sym accepted_so ∙ said) in
        let (b, v, bytes, calls) = begins rest (Ok (commands.Call c, more)) first in
        let after = next_contents (measured_payload m n) (measured_size m n k most_marks) reached.contents c in
        let here = line m some all c.unit a in
        let later = (on after (place + call_size) more).lines in
        let goes_on = transcript_on-accepted m some all n k reached.contents place rest c more calls b c.unit v bytes a (sym (o.answer reached.contents reached.shows) ∙ same) in
        record {
          contents = after;
          shows = o.contents reached.contents reached.shows;
          text = ap (λ (t : List ℕ). t ++ mark_lines later) (is ∙ ap (λ (ls : List MarkLine). out ++ mark_lines ls) (sym own))
              ∙ append_assoc out (mark_lines here) (mark_lines later)
              ∙ ap (λ (t : List ℕ). out ++ t) (sym (mark_lines_append here later))
              ∙ ap (λ (t : Transcript). out ++ mark_lines t.lines) (sym goes_on)
              ∙ reached.text;
          end = ap (λ (t : Transcript). t.end) (sym goes_on) ∙ reached.end;
        }
