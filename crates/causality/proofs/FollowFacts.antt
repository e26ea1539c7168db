-- Three ways to follow the rules: a call that is taken, one that is refused, and one that its memory is too short for.
use Rattle.std.proofs.Common.{◌≡◌, ℕ, true, false, Some, None, Ok, Err, sym, refl, ap, ◌∙◌, subst}
use Rattle.history.specs.declared.refusals.Refusal.{Refusal}
use Rattle.history.specs.declared.refusals.Refusal.TheVariants.{MemoryTooShort}
use Rattle.history.specs.Rows.{Payload}
use Rattle.history.specs.Runs.{Size}
use Rattle.history.specs.declared.calls.Call.{Call}
use Rattle.history.specs.Board.{Contents, refusal, contents_after, answer_to, next_contents, outcome}
use Rattle.history.specs.declared.calls.Answer.{Answer}
use Rattle.causality.specs.Boards.{Memory, Shows, SameBeyond, FollowsRules}

-- memory that nothing wrote
pub nothing_written : {V : Type 0} (start : V) (n k : ℕ) (a : Memory V) → SameBeyond start n k a a
nothing_written start n k a = record {
  clocks = record { same_length = refl; rest = λ i l. refl };
  flags = record { same_length = refl; rest = λ i l. refl };
  values = record { same_length = refl; rest = λ i l. refl };
  posts = record { same_length = refl; rest = λ i l. refl };
}

module _ {V : Type 0} (M : Payload V) (z : Size) where
  module _ (s : Contents V) (c : Call) (e : refusal M z s c.unit c.event ≡ None) where
    pub taken_outcome : outcome M z s c ≡ Ok (answer_to M z c.unit c.event (s.rows c.unit) ((contents_after M z s c.unit c.event).rows c.unit))
    taken_outcome = rw e refl

    pub taken_next : next_contents M z s c ≡ contents_after M z s c.unit c.event
    taken_next = rw e refl

  module _ (c : Call) (old new : Memory V) where
    -- It is taken in all contents that the memory shows, leaves memory that shows the contents after it, and tells the rule's answer.
    pub taken_follows : (a : Answer V) → ((s : Contents V) → Shows M.start z.units z.messages old s → refusal M z s c.unit c.event ≡ None)
        → ((s : Contents V) → Shows M.start z.units z.messages old s → Shows M.start z.units z.messages new (contents_after M z s c.unit c.event))
        → ((s : Contents V) → Shows M.start z.units z.messages old s → a ≡ answer_to M z c.unit c.event (s.rows c.unit) ((contents_after M z s c.unit c.event).rows c.unit))
        → SameBeyond M.start z.units z.messages old new → FollowsRules M z c true old new (Ok a)
    taken_follows a taken shown answered beyond = record {
      answer = λ s sh. ap Ok (answered s sh) ∙ sym (taken_outcome s c (taken s sh));
      contents = λ s sh. subst (Shows M.start z.units z.messages new) (sym (taken_next s c (taken s sh))) (shown s sh);
      beyond = beyond;
      refused = λ e x. cc;
    }

    kept : new ≡ old → (s : Contents V) → Shows M.start z.units z.messages old s → Shows M.start z.units z.messages new s
    kept same s sh = subst (λ (a : Memory V). Shows M.start z.units z.messages a s) (sym same) sh

    kept_beyond : new ≡ old → SameBeyond M.start z.units z.messages old new
    kept_beyond same = subst (SameBeyond M.start z.units z.messages old) (sym same) (nothing_written M.start z.units z.messages old)

    -- It is refused for e in all contents that the memory shows, and leaves the memory.
    pub refused_follows : (e : Refusal) → ((s : Contents V) → Shows M.start z.units z.messages old s → refusal M z s c.unit c.event ≡ Some e) → new ≡ old → FollowsRules M z c true old new (Err e)
    refused_follows e why same = record {
      answer = λ s sh. rw (why s sh) refl;
      contents = λ s sh. rw (why s sh) (kept same s sh);
      beyond = kept_beyond same;
      refused = λ r x. same;
    }

    -- Its memory is too short, and left as it was.
    pub short_follows : (e : Refusal) → e ≡ MemoryTooShort → new ≡ old → FollowsRules M z c false old new (Err e)
    short_follows e is same = record {
      answer = λ s sh. ap Err is;
      contents = λ s sh. kept same s sh;
      beyond = kept_beyond same;
      refused = λ r x. same;
    }
