-- A report is its header, and what the recording comes to.
use Rattle.std.proofs.Common.{◌≡◌, ℕ, Bool, List, ◌++◌, drop, Option, None, Result, sym, ap, ◌∙◌, append_assoc}
use Rattle.measures.specs.Measures.{Meaning}
use Rattle.reports.specs.declared.faults.Fault.{Fault}
use Rattle.reports.specs.declared.faults.RecordingFault.{RecordingFault}
use Rattle.reports.specs.Lines.{header, mark_lines}
use Rattle.reports.specs.Recordings.{Transcript, transcript}
use Rattle.reports.specs.Steps.{Wrote}
use Rattle.reports.specs.Reports.{recording_at, front_fault, judge_in, some_in, all_in, transcript_in, as_fault, end_by, text_by}

-- The transcript under the judge in the input, from the byte where the recording begins, is the input's.
pub transcript_in-is : (b : List ℕ) (m : Meaning ℕ) (some all : ℕ → Bool) → m ≡ judge_in b → some ≡ some_in b → all ≡ all_in b → (from : ℕ) (bytes : List ℕ) → from ≡ recording_at b → bytes ≡ drop from b
    → transcript m some all from bytes ≡ transcript_in b
transcript_in-is b m some all same_meaning same_some same_all from bytes begins rest =
    ap (λ (n : Meaning ℕ). transcript n some all from bytes) same_meaning
    ∙ ap (λ (x : ℕ → Bool). transcript (judge_in b) x all from bytes) same_some
    ∙ ap (λ (x : ℕ → Bool). transcript (judge_in b) (some_in b) x from bytes) same_all
    ∙ ap (transcript (judge_in b) (some_in b) (all_in b) from) rest
    ∙ ap (λ (p : ℕ). transcript (judge_in b) (some_in b) (all_in b) p (drop p b)) begins

-- Where nothing is wrong with the front, the report stands but for its last line once the header and the transcript are written.
pub report-headed : (b : List ℕ) → front_fault b ≡ None → (old head new : List ℕ) → head ≡ old ++ header → (t : Transcript) → t ≡ transcript_in b → (result : Result ℕ RecordingFault) → Wrote head new t result
    → (new ≡ old ++ text_by b (front_fault b)) × (as_fault result ≡ end_by b (front_fault b))
report-headed b sound old head new header_written t same result (text, end) = (
  text
      ∙ ap (λ (u : Transcript). head ++ mark_lines u.lines) same
      ∙ ap (λ (h : List ℕ). h ++ mark_lines (transcript_in b).lines) header_written
      ∙ append_assoc old header (mark_lines (transcript_in b).lines)
      ∙ ap (λ (f : Option Fault). old ++ text_by b f) (sym sound),
  ap as_fault (end ∙ ap (λ (u : Transcript). u.end) same) ∙ ap (end_by b) (sym sound),
)
