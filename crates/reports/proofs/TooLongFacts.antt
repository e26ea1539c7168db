-- The report on an input that is too long has no other line.
use Rattle.std.proofs.Common.{◌≡◌, ℕ, false, List, length, nat_le, refl}
use Rattle.text.specs.Inputs.{most_bytes}
use Rattle.text.specs.Lines.{line_of}
use Rattle.reports.specs.declared.faults.Fault.TheVariants.{TooLong}
use Rattle.reports.specs.Lines.{fault_text}
use Rattle.reports.specs.Reports.{report_on}

pub report_on-too_long : (b : List ℕ) → nat_le (length b) most_bytes ≡ false → report_on b ≡ line_of (fault_text TooLong)
report_on-too_long b e = rw e refl
