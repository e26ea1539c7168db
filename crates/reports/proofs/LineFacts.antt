-- Lists of calls that are all accepted: their parts, and the lines of their marks.
use Rattle.std.proofs.Common.{◌≡◌, ℕ, ◌+◌, Bool, List, [], ◌∷◌, ◌++◌, length, Some, None, Option, refl, sym, ap, ap₂, ◌∙◌, append_assoc, length-append}
use Rattle.history.specs.declared.refusals.Refusal.{Refusal}
use Rattle.history.specs.declared.calls.Event.TheVariants.{Mark, Receive, Send}
use Rattle.history.specs.declared.calls.Event.{Event}
use Rattle.history.specs.Marks.{tick}
use Rattle.history.specs.Rows.{Payload}
use Rattle.history.specs.declared.cells.Cell.{Cell}
use Rattle.history.specs.Runs.{Size}
use Rattle.history.specs.declared.calls.Call.{Call}
use Rattle.history.specs.Board.{History, contents_after, answer_to, answer_or_refusal, next_contents, refusal, outcomes_from, history_after, run_from}
use Rattle.measures.specs.Measures.{Meaning}
use Rattle.reports.specs.declared.lines.MarkLine.{MarkLine}
use Rattle.reports.specs.Laws.{marks_among}
use Rattle.reports.specs.Recordings.{line, lines}
use Rattle.reports.proofs.TranscriptFacts.{AllTaken}

module _ {V : Type 0} (M : Payload V) (z : Size) where
  -- All of two lists are accepted, one after the other, exactly when those of the first are, and then those of the second.
  pub taken_parts : (h : History V) (cs ds : List Call) → AllTaken M z h (cs ++ ds) → AllTaken M z h cs × AllTaken M z (run_from M z h cs) ds
  taken_parts h [] ds taken = (tt, taken)
  taken_parts h (c ∷ cs) ds taken = let (first, later) = taken_parts (history_after M z h c) cs ds taken.1 in ((taken.0, first), later)

  pub taken_both : (h : History V) (cs ds : List Call) → AllTaken M z h cs → AllTaken M z (run_from M z h cs) ds → AllTaken M z h (cs ++ ds)
  taken_both h [] ds first later = later
  taken_both h (c ∷ cs) ds first later = (first.0, taken_both (history_after M z h c) cs ds first.1 later)

module _ (m : Meaning ℕ) (some all : ℕ → Bool) (M : Payload ℕ) (z : Size) where
  -- the lines of calls that are answered one after the other
  abbrev pub lines_at : History ℕ → List Call → List MarkLine
  lines_at h cs = lines m some all cs (outcomes_from M z h.contents cs)

  abbrev pub line_at : History ℕ → Call → List MarkLine
  line_at h c = line m some all c.unit (answer_to M z c.unit c.event (h.contents.rows c.unit) ((contents_after M z h.contents c.unit c.event).rows c.unit))

  -- An accepted call's line stands before those of the calls after it.
  pub lines_more : (h : History ℕ) (c : Call) (cs : List Call) → refusal M z h.contents c.unit c.event ≡ None → lines_at h (c ∷ cs) ≡ line_at h c ++ lines_at (history_after M z h c) cs
  lines_more h c cs allowed =
      ap (λ (o : Option Refusal). lines m some all (c ∷ cs) (answer_or_refusal o (answer_to M z c.unit c.event (h.contents.rows c.unit) ((contents_after M z h.contents c.unit c.event).rows c.unit)) ∷ outcomes_from M z (next_contents M z h.contents c) cs)) allowed

  -- The lines of accepted calls and of those after them: the lines of the first and then of the others.
  pub lines_append : (h : History ℕ) (cs ds : List Call) → AllTaken M z h cs → lines_at h (cs ++ ds) ≡ lines_at h cs ++ lines_at (run_from M z h cs) ds
  lines_append h [] ds taken = refl
  lines_append h (c ∷ cs) ds taken =
      lines_more h c (cs ++ ds) taken.0
      ∙ ap (λ (l : List MarkLine). line_at h c ++ l) (lines_append (history_after M z h c) cs ds taken.1)
      ∙ sym (append_assoc (line_at h c) (lines_at (history_after M z h c) cs) (lines_at (run_from M z (history_after M z h c) cs) ds))
      ∙ ap (λ (l : List MarkLine). l ++ lines_at (run_from M z (history_after M z h c) cs) ds) (sym (lines_more h c cs taken.0))

  -- Only a mark has a line.
  line_counted : (u : ℕ) (e : Event) (r t : ℕ → Cell ℕ) → length (line m some all u (answer_to M z u e r t)) ≡ tick (Some e)
  line_counted u (Send p) r t = refl
  line_counted u (Receive p) r t = refl
  line_counted u (Mark l) r t = refl

  -- There are as many lines of accepted calls as marks.
  pub lines_count : (h : History ℕ) (cs : List Call) → AllTaken M z h cs → length (lines_at h cs) ≡ marks_among cs
  lines_count h [] taken = refl
  lines_count h (c ∷ cs) taken =
      ap length (lines_more h c cs taken.0)
      ∙ length-append (line_at h c) (lines_at (history_after M z h c) cs)
      ∙ ap₂ ◌+◌ (line_counted c.unit c.event (h.contents.rows c.unit) ((contents_after M z h.contents c.unit c.event).rows c.unit)) (lines_count (history_after M z h c) cs taken.1)
