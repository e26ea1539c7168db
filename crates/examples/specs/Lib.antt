pub mod WorkedRuns
