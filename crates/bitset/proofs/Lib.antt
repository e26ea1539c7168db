mod BitFacts
mod EightFacts
mod MemberFacts
mod PartFacts
mod PositionFacts
pub mod Promises
