pub mod Schedule
pub mod Transcript
