pub mod Schedule
pub mod Player
pub mod Refusals
pub mod Turns
