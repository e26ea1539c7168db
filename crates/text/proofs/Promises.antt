-- What other crates may cite of inputs and digits. A line's file has the theorem and its proof.

-- Where a report says the same of every input that is too long, the report on what was read is the report on the whole input.
pub use Rattle.text.proofs.InputFacts.{answered}
-- A byte of a word is two of its hexadecimal digits.
pub use Rattle.text.proofs.HexFacts.{byte_is}
