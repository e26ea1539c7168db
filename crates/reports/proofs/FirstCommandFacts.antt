-- The first command of some bytes, and what it says of them.
-- The bytes of a call are said twice, as a command (`first_command`) and as an event (`event_in`): for each first byte the two agree. Every other
-- proof goes by `begins`, whichever the command is.
use Rattle.std.proofs.Common.{◌≡◌, ℕ, List, [], ◌∷◌, Ok, Err, Result, ◌+◌, length, sym, refl, ap, ◌∙◌, subst, inl, inr, arith}
use Rattle.std.proofs.lemmas.Bool.{cases_eq, ne_eqb}
use Rattle.history.specs.declared.calls.Call as calls
use Rattle.reports.specs.declared.commands.Command.{Command}
use Rattle.reports.specs.declared.commands.Command.TheVariants.{Make, Call, End}
use Rattle.reports.specs.declared.faults.Reason.{Reason}
use Rattle.reports.specs.declared.faults.Reason.TheVariants.{NoByte, NoCommand, NoOperands}
use Rattle.reports.specs.Commands.{make_byte, send_byte, receive_byte, mark_byte, end_byte, call_size, making_size, first_command, calls_in}

-- whether bytes can be no whole command for this reason
abbrev pub OfForm : Reason → Type 0
OfForm NoByte = Unit {0}
OfForm NoCommand = Unit {0}
OfForm NoOperands = Unit {0}
OfForm other = ⊥

-- What it says that this is the first command, and these the bytes after it, or that there is none for this reason: a call is the first of the
-- calls, and has three bytes; else there are no calls. A making has three bytes too, whatever follows; and each reason is one of form.
abbrev pub BeginsWith : List ℕ → Result (Command × List ℕ) Reason → Type 0
BeginsWith bytes (Ok (Call c, rest)) = (b x : ℕ) × (bytes ≡ b ∷ (c.unit ∷ (x ∷ rest))) × (calls_in bytes ≡ c ∷ calls_in rest)
BeginsWith bytes (Ok (Make n k, rest)) =
    (calls_in bytes ≡ []) × (b : ℕ) × (bytes ≡ b ∷ (n ∷ (k ∷ rest))) × ((zs : List ℕ) → first_command (b ∷ (n ∷ (k ∷ zs))) ≡ Ok (Make n k, zs))
BeginsWith bytes (Ok (End, rest)) = calls_in bytes ≡ []
BeginsWith bytes (Err reason) = (calls_in bytes ≡ []) × OfForm reason

-- bytes that begin so with their first command
abbrev FirstBeginsWith : List ℕ → Type 0
FirstBeginsWith bytes = BeginsWith bytes (first_command bytes)

-- a making, and the three kinds of calls
begins_make : (rest : List ℕ) → FirstBeginsWith (make_byte ∷ rest)
begins_make [] = (refl, tt)
begins_make (n ∷ []) = (refl, tt)
begins_make (n ∷ (k ∷ rest)) = (refl, make_byte, refl, λ zs. refl)

begins_send : (rest : List ℕ) → FirstBeginsWith (send_byte ∷ rest)
begins_send [] = (refl, tt)
begins_send (u ∷ []) = (refl, tt)
begins_send (u ∷ (m ∷ rest)) = (send_byte, m, refl, refl)

begins_receive : (rest : List ℕ) → FirstBeginsWith (receive_byte ∷ rest)
begins_receive [] = (refl, tt)
begins_receive (u ∷ []) = (refl, tt)
begins_receive (u ∷ (m ∷ rest)) = (receive_byte, m, refl, refl)

begins_mark : (rest : List ℕ) → FirstBeginsWith (mark_byte ∷ rest)
begins_mark [] = (refl, tt)
begins_mark (u ∷ []) = (refl, tt)
begins_mark (u ∷ (l ∷ rest)) = (mark_byte, l, refl, refl)

-- the end
begins_end : (rest : List ℕ) → FirstBeginsWith (end_byte ∷ rest)
begins_end [] = refl
begins_end (u ∷ []) = refl
begins_end (u ∷ (x ∷ rest)) = refl

-- any other byte
module _ (b : ℕ) (no_make : b ≡ make_byte → ⊥) (no_send : b ≡ send_byte → ⊥) (no_receipt : b ≡ receive_byte → ⊥) (no_mark : b ≡ mark_byte → ⊥) (no_end : b ≡ end_byte → ⊥) where
  no_command : (rest : List ℕ) → first_command (b ∷ rest) ≡ Err NoCommand
  no_command rest = rw (ne_eqb b make_byte no_make, ne_eqb b send_byte no_send, ne_eqb b receive_byte no_receipt, ne_eqb b mark_byte no_mark, ne_eqb b end_byte no_end) refl

  no_calls : (rest : List ℕ) → calls_in (b ∷ rest) ≡ []
  no_calls [] = refl
  no_calls (u ∷ []) = refl
  no_calls (u ∷ (x ∷ rest)) = rw (ne_eqb b send_byte no_send, ne_eqb b receive_byte no_receipt, ne_eqb b mark_byte no_mark) refl

  begins_other : (rest : List ℕ) → FirstBeginsWith (b ∷ rest)
  begins_other rest = subst (BeginsWith (b ∷ rest)) (sym (no_command rest)) (no_calls rest, tt)

by_byte : (b : ℕ) (rest : List ℕ) → FirstBeginsWith (b ∷ rest)
by_byte b rest =
    unless make_byte (begins_make rest) (λ no_make.
    unless send_byte (begins_send rest) (λ no_send.
    unless receive_byte (begins_receive rest) (λ no_receipt.
    unless mark_byte (begins_mark rest) (λ no_mark.
    unless end_byte (begins_end rest) (λ no_end. begins_other b no_make no_send no_receipt no_mark no_end rest)))))
  where
    unless : (v : ℕ) → FirstBeginsWith (v ∷ rest) → ((b ≡ v → ⊥) → FirstBeginsWith (b ∷ rest)) → FirstBeginsWith (b ∷ rest)
    unless v here else_so = elim (cases_eq b v) [ inl e ↦ subst (λ (a : ℕ). FirstBeginsWith (a ∷ rest)) (sym e) here | inr other ↦ else_so other ]

-- What the first command says of the bytes is so.
pub begins : (bytes : List ℕ) (r : Result (Command × List ℕ) Reason) → first_command bytes ≡ r → BeginsWith bytes r
begins bytes r is = subst (BeginsWith bytes) is (all bytes)
  where
    all : (bytes : List ℕ) → FirstBeginsWith bytes
    all [] = (refl, tt)
    all (b ∷ rest) = by_byte b rest

-- A call takes three bytes, and a making too.
pub length-call : (bytes : List ℕ) (c : calls.Call) (rest : List ℕ) → first_command bytes ≡ Ok (Call c, rest) → length bytes ≡ length rest + call_size
length-call bytes c rest first = let (b, x, is, calls) = begins bytes _ first in ap length is ∙ (omega arith)

pub length-making : (bytes : List ℕ) (n k : ℕ) (rest : List ℕ) → first_command bytes ≡ Ok (Make n k, rest) → length bytes ≡ length rest + making_size
length-making bytes n k rest first = let (none, b, is, made) = begins bytes _ first in ap length is ∙ (omega arith)

-- Where some bytes begin with a call, their first command is one.
pub begins_call : (bytes : List ℕ) (c : calls.Call) (cs : List calls.Call) → calls_in bytes ≡ c ∷ cs → (r : calls.Call) × (rest : List ℕ) × (first_command bytes ≡ Ok (Call r, rest))
begins_call bytes c cs some = go (first_command bytes) refl
  where
    not_none : calls_in bytes ≡ [] → ⊥
    not_none none = cc

    go : (r : Result (Command × List ℕ) Reason) → first_command bytes ≡ r → (d : calls.Call) × (rest : List ℕ) × (first_command bytes ≡ Ok (Call d, rest))
    go (Ok (Call d, rest)) is = (d, rest, is)
    go (Ok (Make n k, rest)) is = absurd (not_none (begins bytes _ is).0)
    go (Ok (End, rest)) is = absurd (not_none (begins bytes _ is))
    go (Err reason) is = absurd (not_none (begins bytes _ is).0)
