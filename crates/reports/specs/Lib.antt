pub mod Faults
pub mod Commands
pub mod Lines
pub mod Pages
pub mod Recordings
pub mod Steps
pub mod Reports
pub mod Laws
