mod CellFacts
pub mod Promises
mod RowFacts
