-- Demand 2: what a guard shows, and what a take hands over.
pub mod Invariant
pub mod Guards
pub mod Slot
pub mod Log
pub mod Stages
pub mod Unused
pub mod Lifts
pub mod Steps
pub mod Calls
pub mod Fresh
