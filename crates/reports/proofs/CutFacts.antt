-- Bytes that come to something and break off, and what other bytes come to that agree with them up to the break.
use Rattle.std.proofs.Common.{◌≡◌, ℕ, suc, ◌+◌, ◌≤◌, List, [], ◌∷◌, ◌++◌, length, drop, Err, Result, sym, ap, ap₂, ◌∙◌, arith, append_assoc}
use Rattle.history.specs.declared.calls.Call.{Call}
use Rattle.reports.specs.declared.faults.Reason.{Reason}
use Rattle.reports.specs.declared.faults.RecordingFault.{RecordingFault}
use Rattle.reports.specs.declared.lines.MarkLine.{MarkLine}
use Rattle.reports.specs.Faults.{fault_at}
use Rattle.reports.specs.Recordings.{Transcript}
use Rattle.reports.proofs.CallFacts.{transcript_with}
use Rattle.reports.proofs.PrefixFacts.{AgreeTo, agree_rest}

-- what has no call and no line
abbrev pub Silent : Transcript → Type 0
Silent t = (t.calls ≡ []) × (t.lines ≡ [])

-- Bytes that begin at the byte `place` of the input break off `size` bytes on, among them or at their end. All bytes that agree with them up to the
-- break come to the same calls and lines, and then to what their further bytes come to; and where there are none, to no more.
pub record Cut (comes_to : List ℕ → Transcript) (place : ℕ) (bytes : List ℕ) (f : RecordingFault) : Type 0 where
  pub size : ℕ
  pub at : f.place ≡ place + size
  pub within : size ≤ length bytes
  pub further : List ℕ → Transcript
  pub no_more : Silent (further [])
  pub continues : (other : List ℕ) → AgreeTo size bytes other → comes_to other ≡ transcript_with (comes_to bytes).calls (comes_to bytes).lines (further (drop size other))

-- a break has one reason and one place
pub same_break : (r : Reason) (place : ℕ) (f : RecordingFault) → ◌≡◌ {A = Result ℕ RecordingFault} (Err (fault_at r place)) (Err f) → (r ≡ f.reason) × (place ≡ f.place)
same_break r place f e = let same : fault_at r place ≡ f = cc in (ap (λ (g : RecordingFault). g.reason) same, ap (λ (g : RecordingFault). g.place) same)

-- bytes with no call and no line break off where all that agree with them so far come to what their further bytes do
pub silent_cut : (comes_to further : List ℕ → Transcript) (place : ℕ) (bytes : List ℕ) (f : RecordingFault) (size : ℕ) → f.place ≡ place + size → size ≤ length bytes
    → Silent (comes_to bytes) → Silent (further []) → ((other : List ℕ) → AgreeTo size bytes other → comes_to other ≡ further (drop size other)) → Cut comes_to place bytes f
silent_cut comes_to further place bytes f size at within whole no_more is = record {
  size = size;
  at = at;
  within = within;
  further = further;
  no_more = no_more;
  continues = λ other agree.
      is other agree ∙ ap₂ (λ (cs : List Call) (ls : List MarkLine). transcript_with cs ls (further (drop size other))) (sym whole.0) (sym whole.1);
}

-- what comes before what comes before
twice_with : (cs ds : List Call) (ls ms : List MarkLine) (t : Transcript) → transcript_with cs ls (transcript_with ds ms t) ≡ transcript_with (cs ++ ds) (ls ++ ms) t
twice_with cs ds ls ms t =
    ap₂ (λ (xs : List Call) (ys : List MarkLine). record { units = t.units; messages = t.messages; calls = xs; lines = ys; end = t.end })
    (sym (append_assoc cs ds t.calls)) (sym (append_assoc ls ms t.lines))

-- where three bytes come to some calls and lines whatever follows, they break off where what follows does
pub later_cut : (comes_to after : List ℕ → Transcript) (place a b c : ℕ) (cs : List Call) (ls : List MarkLine)
    → ((rest : List ℕ) → comes_to (a ∷ b ∷ c ∷ rest) ≡ transcript_with cs ls (after rest))
    → (rest : List ℕ) (f : RecordingFault) → Cut after (place + 3) rest f → Cut comes_to place (a ∷ b ∷ c ∷ rest) f
later_cut comes_to after place a b c cs ls is rest f cut = record {
  size = suc (suc (suc cut.size));
  at = let at = cut.at in omega arith;
  within = let within = cut.within in omega arith;
  further = cut.further;
  no_more = cut.no_more;
  continues = λ other agree.
      (let (xs, first, agree_1) = agree_rest a (b ∷ c ∷ rest) other (suc (suc cut.size)) agree in
      let (ys, second, agree_2) = agree_rest b (c ∷ rest) xs (suc cut.size) agree_1 in
      let (zs, third, agree_3) = agree_rest c rest ys cut.size agree_2 in
      let same : other ≡ a ∷ b ∷ c ∷ zs = cc in
      ap comes_to same
      ∙ is zs
      ∙ ap (transcript_with cs ls) (cut.continues zs agree_3)
      ∙ twice_with cs (after rest).calls ls (after rest).lines (cut.further (drop cut.size zs))
      ∙ ap (λ (t : Transcript). transcript_with t.calls t.lines (cut.further (drop cut.size zs))) (sym (is rest))
      ∙ ap (λ (l : List ℕ). transcript_with (comes_to (a ∷ b ∷ c ∷ rest)).calls (comes_to (a ∷ b ∷ c ∷ rest)).lines (cut.further (drop (suc (suc (suc cut.size))) l))) (sym same));
}
