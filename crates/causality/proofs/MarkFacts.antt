-- A mark that is taken follows the rules: its unit's row is rewritten, and no other.
-- What the code did is given as three rows that were written, of clocks, flags and values. Cell by cell, the unit's own or another, each is what the
-- rules make of the row that the memory showed, so the memory shows the contents after the mark; the answer is read off that row.
use Rattle.std.proofs.Common.{◌≡◌, ℕ, ◌+◌, ◌*◌, ◌<◌, ◌≤◌, Bool, true, false, cond, eqb, length, None, Ok, get_or, take, drop, min, sym, refl, ap, ◌∙◌, inl, inr, arith, length-drop, length-take, rules}
use Rattle.std.proofs.lemmas.Bool.{cases_eq, eq-eqb, ne_eqb}
use Rattle.std.proofs.lemmas.Bool.Decides.{nat_tests}
use Rattle.std.proofs.lemmas.List.{places}
use Rattle.bitset.specs.Sets.{has, those, positions_in}
use Rattle.bitset.proofs.Promises.{those_same, has_those, those_below}
use Rattle.grid.specs.declared.Grid.{Grid}
use Rattle.grid.specs.Rows.{row, RowIs}
use Rattle.grid.proofs.Promises.{row_same}
use Rattle.history.specs.declared.calls.Event.TheVariants.{Mark}
use Rattle.history.specs.Rows.{mark_row}
use Rattle.history.specs.declared.cells.Cell.{Cell}
use Rattle.history.specs.Board.{Contents, mark_answer, refusal, contents_after}
use Rattle.history.specs.Limits.{most_marks, most_units}
use Rattle.history.specs.Runs.{call}
use Rattle.causality.specs.Boards.{Memory, Shows, FollowsRules, has_room}
use Rattle.causality.specs.Calls.{Room, Ready}
use Rattle.causality.specs.Payloads.{Reads, size_on, payload_on, PayloadRules}
use Rattle.causality.proofs.RoomFacts.{room_row}
use Rattle.causality.proofs.FollowFacts.{taken_follows}
use Rattle.causality.proofs.MemoryFacts.{same_from, same_all, holds_unit}

marked_same : {V : Type 0} {a b c d : ℕ} {x y : V} → a ≡ b → c ≡ d → x ≡ y → mark_answer a c x ≡ mark_answer b d y
marked_same e f g = rw (e, f, g) refl

-- A mark in row u, by a board that has asked its questions.
module _ {V : Type 0} (rules : PayloadRules V) (n k u l : ℕ) (labelled : rules.fits u l ≡ true) (old : Memory V) (new : Memory V) (r : Ready n k old u)
    (below : get_or old.clocks.cells.now (u * n + u) 0 < most_marks) (clock units : ℕ) (value : V)
    (wc : RowIs n u 0 (λ j. cond (eqb j u) clock (get_or old.clocks.cells.now (u * n + j) 0)) old.clocks.cells.now new.clocks.cells.now)
    (wf : RowIs n u false (λ j. cond (eqb j u) true false) old.flags.cells.now new.flags.cells.now)
    (wv : RowIs n u rules.start (λ j. cond (eqb j u) value rules.start) old.values.cells.now new.values.cells.now)
    (wp : new.posts ≡ old.posts)
    (is : clock ≡ get_or old.clocks.cells.now (u * n + u) 0 + 1) (heard : units ≡ those (λ j. get_or old.flags.cells.now (u * n + j) false) n)
    (worth : (t : ℕ → Cell V) → Reads rules.start n t units (row old.values.cells.now n u) → value ≡ rules.make n t u l) where
  module _ (s : Contents V) (sh : Shows rules.start n k old s) where
    own : get_or old.clocks.cells.now (u * n + u) 0 ≡ (s.rows u u).clock
    own = sh.clocks.rows u u r.unit r.unit

    not_refused : refusal (payload_on rules n) (size_on rules n k) s u (Mark l) ≡ None
    not_refused = let p = own in let h = r.unit in grind (arith, nat_tests)

    heard_is : units ≡ those (λ j. (s.rows u j).flag) n
    heard_is = heard ∙ those_same _ _ n (λ j h. sh.flags.rows u j r.unit h)

    value_is : value ≡ rules.make n (s.rows u) u l
    value_is = worth (s.rows u) (record {
      below = rw heard_is (those_below _ n);
      flags = λ j h. ap (λ (set : ℕ). has set j) heard_is ∙ has_those (λ i. (s.rows u i).flag) n j h;
      cells = λ j h. read j h ∙ sh.values.rows u j r.unit h;
    })
      where
        read : (j : ℕ) → j < n → get_or (row old.values.cells.now n u) j rules.start ≡ get_or old.values.cells.now (u * n + j) rules.start
        read j h = search (rules, places)

    row_clock : (j : ℕ) → j < n → cond (eqb j u) clock (get_or old.clocks.cells.now (u * n + j) 0) ≡ (mark_row (payload_on rules n) u l (s.rows u) j).clock
    row_clock j h = elim (cases_eq j u) [
      | inl e ↦ rw (eq-eqb j u e) (let p = own in let q = ap (λ (i : ℕ). (s.rows u i).clock) e in omega arith)
      | inr ne ↦ rw (ne_eqb j u ne) (sh.clocks.rows u j r.unit h)
    ]

    row_flag : (j : ℕ) → cond (eqb j u) true false ≡ (mark_row (payload_on rules n) u l (s.rows u) j).flag
    row_flag j = elim (cases_eq j u) [ inl e ↦ rw (eq-eqb j u e) refl | inr ne ↦ rw (ne_eqb j u ne) refl ]

    row_value : (j : ℕ) → cond (eqb j u) value rules.start ≡ (mark_row (payload_on rules n) u l (s.rows u) j).value
    row_value j = elim (cases_eq j u) [ inl e ↦ rw (eq-eqb j u e) value_is | inr ne ↦ rw (ne_eqb j u ne) refl ]

    shown : Shows rules.start n k new (contents_after (payload_on rules n) (size_on rules n k) s u (Mark l))
    shown = record {
      clocks = holds_unit (λ c. c.clock) 0 n k s sh.clocks _ u _ r.unit (row_same wc _ row_clock);
      flags = holds_unit (λ c. c.flag) false n k s sh.flags _ u _ r.unit (row_same wf _ (λ j h. row_flag j));
      values = holds_unit (λ c. c.value) rules.start n k s sh.values _ u _ r.unit (row_same wv _ (λ j h. row_value j));
      posts = rw wp sh.posts;
    }

    clock_is : clock ≡ ((contents_after (payload_on rules n) (size_on rules n k) s u (Mark l)).rows u u).clock
    clock_is = sym (wc.here u r.unit ∙ rw (eq-eqb u u refl) refl) ∙ shown.clocks.rows u u r.unit r.unit

    own_value : value ≡ ((contents_after (payload_on rules n) (size_on rules n k) s u (Mark l)).rows u u).value
    own_value = sym (wv.here u r.unit ∙ rw (eq-eqb u u refl) refl) ∙ shown.values.rows u u r.unit r.unit

  pub noted : FollowsRules (payload_on rules n) (size_on rules n k) (call u (Mark l)) (has_room n k old) old new (Ok (mark_answer clock units value))
  noted =
      rw r.room
      (taken_follows (payload_on rules n) (size_on rules n k) (call u (Mark l)) old new (mark_answer clock units value) not_refused shown
      (λ s sh. marked_same (clock_is s sh) (heard_is s sh) (own_value s sh))
      (record {
        clocks = same_from n k u 0 wc (omega (arith, r.unit));
        flags = same_from n k u false wf (omega (arith, r.unit));
        values = same_from n k u rules.start wv (omega (arith, r.unit));
        posts = rw wp (same_all _ k old.posts);
      }))

-- the flags of a row of a board, taken as a part of the cells, as a number
pub flagged_row : {n k : ℕ} {g : Grid Bool} → Room n k g → n ≤ most_units → (u size : ℕ) → u < n + k → size ≡ n → (units : ℕ)
    → units ≡ positions_in (take size (drop (u * n) g.cells.now)) → units ≡ those (λ j. get_or g.cells.now (u * n + j) false) n
flagged_row {n = n} {g = g} r few u size there whole units is =
    let cells = row g.cells.now n u in
    let inside = room_row r u there in
    let long : length cells ≡ n = simp (length-take, length-drop) (omega arith) in
    let count : min (length cells) 64 ≡ n = omega arith in
    is
    ∙ ap (λ (w : ℕ). positions_in (take w (drop (u * n) g.cells.now))) whole
    ∙ ap (those (λ j. get_or cells j false)) count
    ∙ those_same _ _ n (λ j l. search (rules, places))
