-- Clocks, flags and messages do not depend on what cells carry.
-- Two boards that differ in nothing but values are asked the same questions and answer them alike, since no question looks at a value; and what a
-- call does to clocks, flags and messages it does to both. By induction over the calls the two runs stay so.
use Rattle.std.proofs.Common.{◌≡◌, ℕ, List, [], ◌∷◌, Some, None, Option, refl, ap, subst, arith}
use Rattle.history.specs.declared.refusals.Refusal.{Refusal}
use Rattle.history.specs.Events.{Logs}
use Rattle.history.specs.declared.calls.Event.TheVariants.{Mark, Receive, Send}
use Rattle.history.specs.declared.calls.Event.{Event}
use Rattle.history.specs.Rows.{Payload, put}
use Rattle.history.specs.declared.cells.Cell.{Cell}
use Rattle.history.specs.Runs.{Size}
use Rattle.history.specs.declared.calls.Call.{Call}
use Rattle.history.specs.Board.{Contents, History, new_history, if_taken, refusal, contents_after, next_contents, history_after, run_from, run}
use Rattle.history.specs.Laws.{SameButValues, IgnoresPayload, PayloadFree}

-- two cells with the same clock and flag
abbrev Like : {V W : Type 0} → Cell V → Cell W → Type 0
Like a b = (a.clock ≡ b.clock) × (a.flag ≡ b.flag)

module _ {V W : Type 0} where
  like_put : (f : ℕ → ℕ → Cell V) (g : ℕ → ℕ → Cell W) (u : ℕ) (r : ℕ → Cell V) (t : ℕ → Cell W)
      → ((w j : ℕ) → Like (f w j) (g w j)) → ((j : ℕ) → Like (r j) (t j)) → (w j : ℕ) → Like (put f u r w j) (put g u t w j)
  like_put f g u r t h k w j = grind (arith, h w j, k j)

  -- the contents that a call leaves, or those that were there
  same_taken : (o : Option Refusal) (s s' : Contents V) (t t' : Contents W) → SameButValues s' t' → SameButValues s t → SameButValues (if_taken o s' s) (if_taken o t' t)
  same_taken None s s' t t' new old = new
  same_taken (Some e) s s' t t' new old = old

  module _ (M : Payload V) (N : Payload W) (z : Size) where
    module _ (s : Contents V) (t : Contents W) (same : SameButValues s t) where
      same_refusal : (u : ℕ) (e : Event) → refusal M z s u e ≡ refusal N z t u e
      same_refusal u (Send m) = grind (arith, same.posts m)
      same_refusal u (Receive m) = grind (arith, same.posts m)
      same_refusal u (Mark l) = grind (arith, same.clocks u u)

      rows : (w j : ℕ) → Like (s.rows w j) (t.rows w j)
      rows w j = (same.clocks w j, same.flags w j)

      message_rows : (m j : ℕ) → Like (s.message_rows m j) (t.message_rows m j)
      message_rows m j = (same.message_clocks m j, same.message_flags m j)

      -- what a unit's row becomes
      rows_acted : (u : ℕ) (e : Event) (w j : ℕ) → Like ((contents_after M z s u e).rows w j) ((contents_after N z t u e).rows w j)
      rows_acted u (Send m) = rows
      rows_acted u (Receive m) = like_put s.rows t.rows u _ _ rows (λ j. grind (arith, rows u j, message_rows m j))
      rows_acted u (Mark l) = like_put s.rows t.rows u _ _ rows (λ j. grind (arith, rows u j))

      message_rows_acted : (u : ℕ) (e : Event) (m j : ℕ) → Like ((contents_after M z s u e).message_rows m j) ((contents_after N z t u e).message_rows m j)
      message_rows_acted u (Send m) = like_put s.message_rows t.message_rows m (s.rows u) (t.rows u) message_rows (rows u)
      message_rows_acted u (Receive m) = message_rows
      message_rows_acted u (Mark l) = message_rows

      posts_acted : (u : ℕ) (e : Event) (m : ℕ) → (contents_after M z s u e).posts m ≡ (contents_after N z t u e).posts m
      posts_acted u (Send n) m = grind (arith, same.posts m, same.posts n)
      posts_acted u (Receive n) m = grind (arith, same.posts m, same.posts n)
      posts_acted u (Mark l) m = same.posts m

      same_acted : (u : ℕ) (e : Event) → SameButValues (contents_after M z s u e) (contents_after N z t u e)
      same_acted u e = record {
        clocks = λ w j. (rows_acted u e w j).0;
        flags = λ w j. (rows_acted u e w j).1;
        message_clocks = λ m j. (message_rows_acted u e m j).0;
        message_flags = λ m j. (message_rows_acted u e m j).1;
        posts = posts_acted u e;
      }

      same_next : (c : Call) → SameButValues (next_contents M z s c) (next_contents N z t c)
      same_next c =
          subst (λ o. SameButValues (next_contents M z s c) (if_taken o (contents_after N z t c.unit c.event) t)) (same_refusal c.unit c.event)
          (same_taken (refusal M z s c.unit c.event) s (contents_after M z s c.unit c.event) t (contents_after N z t c.unit c.event) (same_acted c.unit c.event) same)

    -- two histories that differ in nothing but what cells carry
    record Twin (g : History V) (h : History W) : Type 0 where
      contents_alike : SameButValues g.contents h.contents
      logs : g.log ≡ h.log

    twin_after : (g : History V) (h : History W) → Twin g h → (c : Call) → Twin (history_after M z g c) (history_after N z h c)
    twin_after g h t c = record {
      contents_alike = same_next g.contents h.contents t.contents_alike c;
      logs = rw (same_refusal g.contents h.contents t.contents_alike c.unit c.event, t.logs) refl;
    }

    twin_run : (g : History V) (h : History W) → Twin g h → (cs : List Call) → Twin (run_from M z g cs) (run_from N z h cs)
    twin_run g h t [] = t
    twin_run g h t (c ∷ cs) = twin_run (history_after M z g c) (history_after N z h c) (twin_after g h t c) cs

    twins : (cs : List Call) → Twin (run M z cs) (run N z cs)
    twins cs = twin_run (new_history M) (new_history N) (record {
      contents_alike = record { clocks = λ w j. refl; flags = λ w j. refl; message_clocks = λ m j. refl; message_flags = λ m j. refl; posts = λ m. refl };
      logs = refl;
    }) cs

    pub ignores_payload : IgnoresPayload M N z
    ignores_payload = record {
      refusals = same_refusal;
      step = same_next;
      logs = λ cs u. ap (λ (log : Logs). log u) (twins cs).logs;
      contents_alike = λ cs. (twins cs).contents_alike;
    }

pub payload_free : (V W : Type 0) → PayloadFree V W
payload_free V W M N z = ignores_payload M N z
