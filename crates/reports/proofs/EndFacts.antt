-- A recording that ends well: how many messages are left on their way, that all of its calls are read, and that an end stands after them.
-- Answers that give a good end were all accepted, and the bytes after the calls are the end alone. So the contents at the end are those of the run of all
-- calls; counted are the messages whose state is on the way, which in a run are those sent and not received.
use Rattle.std.proofs.Common.{◌≡◌, ◌↔◌, ℕ, zero, suc, ◌+◌, ◌*◌, ◌<◌, Bool, true, false, if◌then◌else◌, ◌==◌, List, [], ◌∷◌, length, drop, Some, Ok, Err, Result, sym, refl, ap, ◌∙◌, subst, inl, inr, ⊎_elim, arith}
use Rattle.std.specs.List.{slice_get}
use Rattle.std.proofs.Math.Path.{fun_ext}
use Rattle.history.specs.declared.messages.Post.{Post}
use Rattle.history.specs.declared.refusals.Refusal.{Refusal}
use Rattle.history.specs.Counting.{Exactly, HowMany}
use Rattle.history.specs.Events.{Logs, at, IsSent, IsReceived}
use Rattle.history.specs.declared.calls.Event.TheVariants.{Send}
use Rattle.history.specs.declared.calls.Event.{Event}
use Rattle.history.specs.Limits.{most_marks}
use Rattle.history.specs.Messages.{is_on_its_way, Stated}
use Rattle.history.specs.Rows.{Payload}
use Rattle.history.specs.Runs.{Size, Possible, Continues, Run, silence, with_entry, by_unit, events_in}
use Rattle.history.specs.declared.calls.Call.{Call}
use Rattle.history.specs.Board.{Contents, new_contents, new_history, next_contents, outcome, outcomes_from, run, accepted_calls, contents_from}
use Rattle.history.specs.declared.calls.Answer.{Answer}
use Rattle.history.proofs.Promises.{accepts_runs, exactly_like, on_its_way_stated}
use Rattle.causality.specs.Boards.{left_among}
use Rattle.measures.specs.Measures.{Meaning}
use Rattle.measures.specs.Worths.{measured_payload, measured_size}
use Rattle.reports.specs.declared.commands.Command.{Command}
use Rattle.reports.specs.declared.commands.Command.TheVariants as commands
use Rattle.reports.specs.declared.faults.Reason.{Reason}
use Rattle.reports.specs.declared.faults.RecordingFault.{RecordingFault}
use Rattle.reports.specs.Commands.{making_size, call_size, first_command, calls_in}
use Rattle.reports.specs.Recordings.{Transcript, end_after_calls, ending, calls_before_refusal, transcript_on, transcript}
use Rattle.reports.specs.Reports.{recording_at, judge_in, some_in, all_in, transcript_in}
use Rattle.reports.specs.Laws.{AfterCalls}
use Rattle.reports.proofs.CallFacts.{after_making}
use Rattle.reports.proofs.FirstCommandFacts.{begins}
use Rattle.reports.proofs.TranscriptFacts.{reads, reads_ok, last_run, transcript_cases}

module _ (posts : ℕ → Post) where
  -- a message below k that is on its way
  abbrev OnWay : ℕ → ℕ → Type 0
  OnWay k p = (p < k) × (is_on_its_way (posts p) ≡ true)

  -- one number more
  one_more : (k n : ℕ) (l : List ℕ) → Exactly (OnWay k) l → length l ≡ n → (b : Bool) → is_on_its_way (posts k) ≡ b → HowMany (OnWay (suc k)) (n + (if b then 1 else 0))
  one_more k n l x e true t = (
    k ∷ l,
    record {
      sound = λ a m. ⊎_elim (λ h. grind arith) (λ h. (let s = x.sound a h in grind arith)) m;
      complete = λ a h. grind (arith, x.complete a);
      once = (λ m. (let s = x.sound k m in omega arith), x.once);
    },
    omega arith,
  )
  one_more k n l x e false t = (
    l,
    record { sound = λ a m. (let s = x.sound a m in grind arith); complete = λ a h. grind (arith, x.complete a); once = x.once },
    omega arith,
  )

  -- So many messages below k are on their way as are counted.
  way_counted : (k : ℕ) → HowMany (OnWay k) (left_among posts k)
  way_counted zero = ([], record { sound = λ a m. absurd m; complete = λ a h. absurd (omega arith); once = tt }, refl)
  way_counted (suc k) = let (l, x, e) = way_counted k in one_more k (left_among posts k) l x e (is_on_its_way (posts k)) refl

-- In a run only messages of the board are sent.
sent_below : (z : Size) (logs : Logs) (cs : List Call) → Continues z logs cs → (u i p : ℕ) → at (by_unit cs) u i ≡ Some (Send p) → p < z.messages
sent_below z logs [] r u i p e = cc
sent_below z logs (c ∷ cs) r u i p e = go (u == c.unit) i e (λ j. sent_below z (with_entry logs c.unit c.event) cs r.1 u j p)
  where
    first : c.event ≡ Send p → p < z.messages
    first e = (subst (λ (x : Event). Possible z logs c.unit x) e r.0).1

    go : (b : Bool) (i : ℕ) → slice_get (if b then c.event ∷ by_unit cs u else by_unit cs u) i ≡ Some (Send p)
        → ((j : ℕ) → at (by_unit cs) u j ≡ Some (Send p) → p < z.messages) → p < z.messages
    go true zero e rest = first cc
    go true (suc i) e rest = rest i e
    go false i e rest = rest i e

module _ {V : Type 0} (M : Payload V) (z : Size) where
  -- After calls that are all accepted, so many messages are sent and not received as are counted on their way.
  run_counted : (cs : List Call) → accepted_calls M z cs ≡ cs → HowMany (λ p. IsSent (at (by_unit cs)) p × (IsReceived (at (by_unit cs)) p → ⊥)) (left_among (run M z cs).contents.posts z.messages)
  run_counted cs whole =
      let (l, x, e) = way_counted (run M z cs).contents.posts z.messages in
      (l, exactly_like (λ p h. (stated p).0 h.1) (λ p h. (below p h.0, (stated p).1 h)) l x, e)
    where
      logs : (run M z cs).log ≡ by_unit cs
      logs = fun_ext (λ u. (accepts_runs M z cs).logged u ∙ ap (λ (ds : List Call). by_unit ds u) whole)

      stated : (p : ℕ) → (is_on_its_way ((run M z cs).contents.posts p) ≡ true) ↔ (IsSent (at (by_unit cs)) p × (IsReceived (at (by_unit cs)) p → ⊥))
      stated p = on_its_way_stated (at (by_unit cs)) p _ (subst (λ (log : Logs). Stated (at log) p ((run M z cs).contents.posts p)) logs ((accepts_runs M z cs).posts_stated p))

      below : (p : ℕ) → IsSent (at (by_unit cs)) p → p < z.messages
      below p (u, i, e) = sent_below z silence cs (subst (λ (ds : List Call). Run z ds) whole (accepts_runs M z cs).accepted_run) u i p e

  -- Calls after which a recording ends well are read whole, and it ends as what closes it.
  ending_ok : (cs : List Call) (s : Contents V) (place left : ℕ) (closing : Result ℕ RecordingFault) → ending place (outcomes_from M z s cs) closing ≡ Ok left
      → (closing ≡ Ok left) × (reads M z s cs ≡ cs)
  ending_ok [] s place left closing ends = (ends, refl)
  ending_ok (c ∷ cs) s place left closing ends = one (outcome M z s c) (outcomes_from M z (next_contents M z s c) cs) (ending_ok cs (next_contents M z s c) (place + call_size) left closing) ends
    where
      one : (r : Result (Answer V) Refusal) (xs : List (Result (Answer V) Refusal))
          → (ending (place + call_size) xs closing ≡ Ok left → (closing ≡ Ok left) × (calls_before_refusal cs xs ≡ cs)) → ending place (r ∷ xs) closing ≡ Ok left
          → (closing ≡ Ok left) × (calls_before_refusal (c ∷ cs) (r ∷ xs) ≡ c ∷ cs)
      one (Ok a) xs later ends = let (closes, whole) = later ends in (closes, ap (λ (l : List Call). c ∷ l) whole)
      one (Err x) xs later ends = cc

-- What ends a recording well is an end with nothing after it, and leaves what is left.
end_after_calls-ok : (left place : ℕ) (r : Result (Command × List ℕ) Reason) (x : ℕ) → end_after_calls left place r ≡ Ok x
    → (r ≡ Ok (commands.End, [])) × (left ≡ x)
end_after_calls-ok left place (Err reason) x ends = cc
end_after_calls-ok left place (Ok (commands.End, [])) x ends = (refl, cc)
end_after_calls-ok left place (Ok (commands.End, y ∷ rest)) x ends = cc
end_after_calls-ok left place (Ok (commands.Make n k, rest)) x ends = cc
end_after_calls-ok left place (Ok (commands.Call c, rest)) x ends = cc

module _ (m : Meaning ℕ) (some all : ℕ → Bool) where
  -- Where a recording on a board ends well, it leaves the messages on their way after the calls read.
  left_on : (n k place : ℕ) (bytes : List ℕ) (x : ℕ) → (transcript_on m some all n k (new_contents (measured_payload m n)) place bytes).end ≡ Ok x
      → x ≡ left_among (run (measured_payload m n) (measured_size m n k most_marks) (transcript_on m some all n k (new_contents (measured_payload m n)) place bytes).calls).contents.posts k
  left_on n k place bytes x ends =
      let M = measured_payload m n in
      let z = measured_size m n k most_marks in
      let cs = calls_in bytes in
      let after = first_command (drop (call_size * length cs) bytes) in
      let (closes, whole) = ending_ok M z cs (new_contents M) place x (end_after_calls (left_among (contents_from M z (new_contents M) cs).posts k) (place + call_size * length cs) after) ends in
      sym (end_after_calls-ok _ _ _ x closes).1
      ∙ ap (λ (s : Contents ℕ). left_among s.posts k) (last_run M z cs)
      ∙ ap (λ (l : List Call). left_among (run M z l).contents.posts k) (sym whole)

  -- Where any recording ends well, all of its calls are read.
  transcript_whole : (place : ℕ) (bytes : List ℕ) (left : ℕ) → (transcript m some all place bytes).end ≡ Ok left → (transcript m some all place bytes).calls ≡ calls_in (drop making_size bytes)
  transcript_whole place bytes = elim (transcript_cases m some all place bytes) [
    | inl (reason, is) ↦ subst Whole (sym is) (λ left ends. cc)
    | inr (n, k, rest, first, made, is) ↦ subst Whole (sym is) (λ left ends.
        let (none, x, same, whatever) = begins bytes _ first in
        (ending_ok (measured_payload m n) (measured_size m n k most_marks) (calls_in rest) (new_contents (measured_payload m n)) (place + making_size) left _ ends).1 ∙ ap (λ (ys : List ℕ). calls_in (drop making_size ys)) (sym same))
  ]
    where
      Whole : Transcript → Type 0
      Whole t = (left : ℕ) → t.end ≡ Ok left → t.calls ≡ calls_in (drop making_size bytes)

  -- the messages that were sent and not received are counted, if a recording ends well
  abbrev Leaves : Transcript → Type 0
  Leaves t = (left : ℕ) → t.end ≡ Ok left → HowMany (λ p. IsSent (events_in t.calls) p × (IsReceived (events_in t.calls) p → ⊥)) left

  -- Where any recording ends well, the messages that were sent and not received are counted.
  transcript_leaves : (place : ℕ) (bytes : List ℕ) → Leaves (transcript m some all place bytes)
  transcript_leaves place bytes = elim (transcript_cases m some all place bytes) [
    | inl (reason, is) ↦ subst Leaves (sym is) (λ left ends. cc)
    | inr (n, k, rest, first, made, is) ↦ subst Leaves (sym is) (λ left ends. subst (HowMany _) (sym (left_on n k (place + making_size) rest left ends))
        (run_counted (measured_payload m n) (measured_size m n k most_marks) _ (reads_ok (measured_payload m n) (measured_size m n k most_marks) (new_history (measured_payload m n)) (calls_in rest))))
  ]

-- Where a recording ends well, the messages that were sent and not received are counted.
pub left_counted : (b : List ℕ) (left : ℕ) → (transcript_in b).end ≡ Ok left
    → HowMany (λ p. IsSent (events_in (transcript_in b).calls) p × (IsReceived (events_in (transcript_in b).calls) p → ⊥)) left
left_counted b = transcript_leaves (judge_in b) (some_in b) (all_in b) (recording_at b) (drop (recording_at b) b)

-- Where a recording ends well, all calls after its making are read.
pub all_read : (b : List ℕ) (left : ℕ) → (transcript_in b).end ≡ Ok left → (transcript_in b).calls ≡ calls_in (drop making_size (drop (recording_at b) b))
all_read b = transcript_whole (judge_in b) (some_in b) (all_in b) (recording_at b) (drop (recording_at b) b)

-- And after them stands an end, and nothing more.
pub ended : (b : List ℕ) (left : ℕ) → (transcript_in b).end ≡ Ok left → (p : ℕ) × AfterCalls b p × (first_command (drop p b) ≡ Ok (commands.End, []))
ended b left ends = elim (transcript_cases (judge_in b) (some_in b) (all_in b) (recording_at b) (drop (recording_at b) b)) [
  | inl (reason, is) ↦ let end = ap (λ (is : Transcript). is.end) is in absurd (cc)
  | inr (n, k, rest, first, made, is) ↦
      let (none, x, same, whatever) = begins (drop (recording_at b) b) _ first in
      let cs = calls_in rest in
      let (closes, whole) = ending_ok (measured_payload (judge_in b) n) (measured_size (judge_in b) n k most_marks) cs (new_contents (measured_payload (judge_in b) n)) (recording_at b + making_size) left _ (sym (ap (λ (is : Transcript). is.end) is) ∙ ends) in
      let there = after_making (recording_at b) b rest (sym (ap (drop making_size) same)) (call_size * length cs) (recording_at b + making_size + call_size * length cs) refl in (
        recording_at b + making_size + call_size * length cs,
        (n, k, rest, first, made, ap (λ (l : List Call). recording_at b + making_size + call_size * length l) (sym (ap (λ (is : Transcript). is.calls) is ∙ whole))),
        ap first_command there ∙ (end_after_calls-ok _ _ _ left closes).0,
      )
]
