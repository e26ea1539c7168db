pub mod Boards
pub mod Calls
pub mod Comparing
pub mod Marking
pub mod Merging
pub mod Payloads
