-- A recording by its first command, which makes the board.
use Rattle.std.proofs.Common.{◌≡◌, ℕ, ◌+◌, ◌*◌, ◌≤◌, Bool, true, false, ◌&&◌, leb, List, ◌++◌, length, Some, None, Ok, Err, Option, Result, sym, refl, ap, ◌∙◌, subst, arith, append-nil, mul-le-mul_right, mul-le-mul_left, le_trans}
use Rattle.std.proofs.lemmas.Bool.{le-leb, leb-true, eq-eqb}
use Rattle.grid.specs.declared.Grid.{Grid}
use Rattle.history.specs.declared.messages.Post.{Post}
use Rattle.history.specs.declared.refusals.Refusal.{Refusal}
use Rattle.history.specs.Limits.{most_units, most_messages}
use Rattle.history.specs.Board.{new_contents}
use Rattle.causality.specs.Boards.{Memory, has_all_rows, make_refusal, has_room, memory}
use Rattle.measures.specs.Measures.{Meaning}
use Rattle.measures.specs.Worths.{measured_payload}
use Rattle.reports.specs.declared.commands.Command.TheVariants as commands
use Rattle.reports.specs.declared.faults.RecordingFault.{RecordingFault}
use Rattle.reports.specs.declared.faults.Reason.TheVariants.{Refused}
use Rattle.reports.specs.Commands.{making_size, first_command}
use Rattle.reports.specs.Faults.{fault_at}
use Rattle.reports.specs.Lines.{mark_lines}
use Rattle.reports.specs.Recordings.{Transcript, transcript_of_board, transcript_on, transcript_from, transcript}
use Rattle.reports.specs.Steps.{Wrote, WroteOn}

and_false : (b : Bool) → (b && false) ≡ false
and_false true = refl
and_false false = refl

-- the cells of a grid of the largest board
abbrev pub most_cells : ℕ
most_cells = (most_units + most_messages) * most_units

-- Memory for the largest board is long enough for each; so a making is refused for its size alone.
module _ (n k : ℕ) (few_messages : k ≤ most_messages) where
  long : n ≤ most_units → (n + k) * n ≤ most_cells
  long few = le_trans (mul-le-mul_right n (omega (arith, few, few_messages))) (mul-le-mul_left (most_units + most_messages) few)

  fits : n ≤ most_units → {X : Type 0} (g : Grid X) → g.width ≡ n → length g.cells.now ≡ most_cells → has_all_rows n k g ≡ true
  fits few g wide cells = rw (wide, cells, eq-eqb n n refl) (le-leb ((n + k) * n) most_cells (long few))

  pub made_by_size : (clocks : Grid ℕ) (flags : Grid Bool) (values : Grid ℕ) (posts : List Post) → clocks.width ≡ n → flags.width ≡ n → values.width ≡ n
      → length clocks.cells.now ≡ most_cells → length flags.cells.now ≡ most_cells → length values.cells.now ≡ most_cells → length posts ≡ most_messages
      → make_refusal n k (has_room n k (memory clocks flags values posts)) ≡ make_refusal n k true
  made_by_size clocks flags values posts cw fw vw cl fl vl pl = go (leb n most_units) refl
    where
      rooms : n ≤ most_units → has_room n k (memory clocks flags values posts) ≡ true
      rooms few = rw (fits few clocks cw cl, fits few flags fw fl, fits few values vw vl, pl) (le-leb k most_messages few_messages)

      go : (t : Bool) → leb n most_units ≡ t → make_refusal n k (has_room n k (memory clocks flags values posts)) ≡ make_refusal n k true
      go true e = ap (make_refusal n k) (rooms (leb-true n most_units e))
      go false e = rw (e, and_false (leb 1 n)) refl

module _ (m : Meaning ℕ) (some all : ℕ → Bool) (place : ℕ) (bytes rest : List ℕ) (n k : ℕ) (first : first_command bytes ≡ Ok (commands.Make n k, rest)) where
  -- Its transcript is by the making.
  pub transcript-making : (o : Option Refusal) → make_refusal n k true ≡ o → transcript m some all place bytes ≡ transcript_of_board m some all n k place rest o
  transcript-making o is = ap (transcript_from m some all place) first ∙ ap (transcript_of_board m some all n k place rest) is

  -- A board that is not made breaks the recording off.
  pub board_refused : (e : Refusal) → make_refusal n k true ≡ Some e → (old : List ℕ) (result : Result ℕ RecordingFault) → result ≡ Err (fault_at (Refused e) place)
      → Wrote old old (transcript m some all place bytes) result
  board_refused e is old result so =
      let nothing = transcript-making (Some e) is in
      (sym (append-nil old) ∙ ap (λ (t : Transcript). old ++ mark_lines t.lines) (sym nothing), so ∙ ap (λ (t : Transcript). t.end) (sym nothing))

  -- A board that is made is handed the rest.
  pub board_made : make_refusal n k true ≡ None → (old new : List ℕ) (result : Result ℕ RecordingFault) → Wrote old new (transcript_on m some all n k (new_contents (measured_payload m n)) (place + making_size) rest) result
      → Wrote old new (transcript m some all place bytes) result
  board_made is old new result tells = subst (λ (t : Transcript). Wrote old new t result) (sym (transcript-making None is)) tells

-- What was written on a board is written by the judge, and of the size, that it was made with.
pub made_with : {J : Type 0} (meaning : J → Meaning ℕ) (some all : J → ℕ → Bool) (judge measure : J) → measure ≡ judge → (n units : ℕ) → units ≡ n → (k messages : ℕ) → messages ≡ k
    → (memory : Memory ℕ) (old new : List ℕ) (place : ℕ) (rest : List ℕ) (result : Result ℕ RecordingFault)
    → WroteOn meaning some all measure units messages memory place rest old new result → WroteOn meaning some all judge n k memory place rest old new result
made_with {J} meaning some all judge measure same n units un k messages mk memory old new place rest result wrote =
    subst (λ (j : J). WroteOn meaning some all j n k memory place rest old new result) same
    (subst (λ (u : ℕ). WroteOn meaning some all measure u k memory place rest old new result) un
    (subst (λ (p : ℕ). WroteOn meaning some all measure units p memory place rest old new result) mk wrote))
