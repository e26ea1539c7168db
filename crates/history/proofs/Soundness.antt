-- What a run keeps: its contents are what its logs say.
use Rattle.std.proofs.Common.{◌≡◌, ℕ, suc, ◌<◌, true, length, Some, arith}
use Rattle.history.specs.Events.{Events, Logs, at, IsSent}
use Rattle.history.specs.declared.calls.Event.TheVariants.{Mark, Send}
use Rattle.history.specs.declared.calls.Event.{Event}
use Rattle.history.specs.Messages.{Stated}
use Rattle.history.specs.Rows.{Payload, new_row}
use Rattle.history.specs.declared.cells.Cell.{Cell}
use Rattle.history.specs.Runs.{Size, Ranged, silence, with_entry}
use Rattle.history.specs.Board.{Contents, new_contents}
use Rattle.history.proofs.UnitRows.{Row, new, sent, received, marked}
use Rattle.history.proofs.RowTruth.{Once}
use Rattle.history.proofs.LogFacts.{entry_length, entry_keeps, entry_cases}

-- What contents and logs that belong together keep.
pub record Sound {V : Type 0} (M : Payload V) (z : Size) (s : Contents V) (logs : Logs) : Type 0 where
  -- each unit's row is the row after its events
  pub rows_are : (u : ℕ) → Row M (at logs) u (length (logs u)) (s.rows u)
  -- a message's row is that of its sender at the send, or new
  pub sent_row : (m w j : ℕ) → at logs w j ≡ Some (Send m) → Row M (at logs) w j (s.message_rows m)
  pub unsent_row : (m : ℕ) → (IsSent (at logs) m → ⊥) → s.message_rows m ≡ new_row M.start
  -- its contents are what the events say
  pub posts_are : (m : ℕ) → Stated (at logs) m (s.posts m)
  pub once : Once (at logs)
  pub ranged : Ranged (at logs) z

-- more events leave the rows as they were
pub row_grows : {V : Type 0} (M : Payload V) (ev ew : Events) → ((w i : ℕ) (e : Event) → ev w i ≡ Some e → ew w i ≡ Some e)
    → {u i : ℕ} {r : ℕ → Cell V} → Row M ev u i r → Row M ew u i r
row_grows M ev ew g (new a b) = new a b
row_grows M ev ew g {u} (sent k m a b d) = sent k m a (g u k _ b) (row_grows M ev ew g d)
row_grows M ev ew g {u} (received k m w j p q a b c d e f) = received k m w j p q a (g u k _ b) (g w j _ c) (row_grows M ev ew g d) (row_grows M ev ew g e) f
row_grows M ev ew g {u} (marked k l p a b d f) = marked k l p a (g u k _ b) (row_grows M ev ew g d) f

module _ {V : Type 0} (M : Payload V) (z : Size) where
  pub sound_new : Sound M z (new_contents M) silence
  sound_new = grind (arith, new)

  module _ (s : Contents V) (logs : Logs) (h : Sound M z s logs) (u : ℕ) (x : Event) where
    pub grows : {w i : ℕ} {r : ℕ → Cell V} → Row M (at logs) w i r → Row M (at (with_entry logs u x)) w i r
    grows d = row_grows M (at logs) (at (with_entry logs u x)) (entry_keeps logs u x) d

    -- the rows of all units but u, whose row is t, after one more event of u
    pub rows_grow : (t : ℕ → Cell V) → Row M (at (with_entry logs u x)) u (suc (length (logs u))) t
        → (rows : ℕ → ℕ → Cell V) → rows u ≡ t → ((w : ℕ) → (w ≡ u → ⊥) → rows w ≡ s.rows w)
        → (w : ℕ) → Row M (at (with_entry logs u x)) w (length (with_entry logs u x w)) (rows w)
    rows_grow t d rows own rest w = grind (arith, entry_length, grows)

    -- messages other than one that is sent now keep their rows
    pub sent_row_grows : (m : ℕ) → (x ≡ Send m → ⊥) → (w j : ℕ) → at (with_entry logs u x) w j ≡ Some (Send m) → Row M (at (with_entry logs u x)) w j (s.message_rows m)
    sent_row_grows m d w j e = grind (arith, grows, entry_cases)

    pub unsent_before : (m : ℕ) → (IsSent (at (with_entry logs u x)) m → ⊥) → IsSent (at logs) m → ⊥
    unsent_before m n p = n (p.0, p.1, entry_keeps logs u x p.0 p.1 (Send m) p.2)

    pub once_grows : ((m : ℕ) → x ≡ Send m → IsSent (at logs) m → ⊥) → Once (at (with_entry logs u x))
    once_grows fresh m a i b j e f = grind (arith, entry_cases)

    pub ranged_grows : u < z.units → ((l : ℕ) → x ≡ Mark l → z.fits u l ≡ true) → Ranged (at (with_entry logs u x)) z
    ranged_grows below fits = grind (arith, entry_cases)
