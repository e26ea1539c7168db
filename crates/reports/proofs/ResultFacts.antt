-- What was read or done, or why the recording breaks off at a byte of the input.
use Rattle.std.specs.Prelude.{MatchResult}
use Rattle.std.proofs.Common.{◌≡◌, ℕ, List, Bor, Ok, Err, Result, refl, ap, ◌∙◌, subst}
use Rattle.history.specs.declared.refusals.Refusal.{Refusal}
use Rattle.reports.specs.declared.commands.Command.{Command}
use Rattle.reports.specs.declared.faults.Reason.{Reason}
use Rattle.reports.specs.declared.faults.Reason.TheVariants.{Refused}
use Rattle.reports.specs.declared.faults.RecordingFault.{RecordingFault}
use Rattle.reports.specs.Commands.{first_command}
use Rattle.reports.specs.Faults.{fault_at}
use Rattle.reports.specs.Steps.{result_with_place, result_with_reason}

module _ {T : Type 0} (place : ℕ) where
  -- what is there was read or done
  pub result_with_place-ok : (r : Result T Reason) {x : T} {t : Result T RecordingFault} → t ≡ result_with_place r place → t ≡ Ok x → r ≡ Ok x
  result_with_place-ok (Ok y) e is = cc
  result_with_place-ok (Err q) e is = cc

  -- what is not was not, for that reason and there
  pub result_with_place-err : (r : Result T Reason) {f : RecordingFault} {t : Result T RecordingFault} → t ≡ result_with_place r place → t ≡ Err f → (r ≡ Err f.reason) × (f ≡ fault_at f.reason place)
  result_with_place-err (Ok y) e is = cc
  result_with_place-err (Err q) {f} e is = let same : fault_at q place ≡ f = cc in (cc, cc)

-- what a board answers, or why the recording breaks off
module _ {T : Type 0} where
  pub result_with_reason-ok : (r : Result T Refusal) {x : T} {t : Result T Reason} → t ≡ result_with_reason r → t ≡ Ok x → r ≡ Ok x
  result_with_reason-ok (Ok y) e is = cc
  result_with_reason-ok (Err q) e is = cc

  pub result_with_reason-err : (r : Result T Refusal) {q : Reason} {t : Result T Reason} → t ≡ result_with_reason r → t ≡ Err q → (e : Refusal) × (r ≡ Err e) × (q ≡ Refused e)
  result_with_reason-err (Ok y) e is = cc
  result_with_reason-err (Err d) e is = (d, refl, cc)

-- What a result owes it owes of what it holds.
module _ {T E : Type 0} (P : T → Type 0) (Q : E → Type 0) (r : Result T E) (owes : MatchResult r P Q) where
  pub match_result-ok : (x : T) → r ≡ Ok x → P x
  match_result-ok x is = subst (λ (s : Result T E). MatchResult s P Q) is owes

  pub match_result-err : (e : E) → r ≡ Err e → Q e
  match_result-err e is = subst (λ (s : Result T E). MatchResult s P Q) is owes

-- The first command of some bytes, as it is read at a byte of the input.
module _ (bytes : List ℕ) (place : ℕ) (read : Result (Command × Bor (List ℕ)) Reason)
    (owes : MatchResult read (λ r. first_command bytes ≡ Ok (r.0, r.1.now)) (λ e. first_command bytes ≡ Err e)) {t : Result (Command × Bor (List ℕ)) RecordingFault} (is : t ≡ result_with_place read place) where
  abbrev Reads : Command × Bor (List ℕ) → Type 0
  Reads r = first_command bytes ≡ Ok (r.0, r.1.now)

  pub first_command-ok : {after : Bor (List ℕ)} {c d : Command} → t ≡ Ok (c, after) → c ≡ d → first_command bytes ≡ Ok (d, after.now)
  first_command-ok {after} {c} {d} got same =
      match_result-ok Reads (λ e. first_command bytes ≡ Err e) read owes (c, after) (result_with_place-ok place read is got) ∙ ap (λ (e : Command). Ok (e, after.now)) same

  pub first_command-err : {f : RecordingFault} → t ≡ Err f → (first_command bytes ≡ Err f.reason) × (f ≡ fault_at f.reason place)
  first_command-err {f} got = let (none, at) = result_with_place-err place read is got in (match_result-err Reads (λ e. first_command bytes ≡ Err e) read owes f.reason none, at)
