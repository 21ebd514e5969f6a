-- The account and the machine stay alike, so the machine answers what the table says.
pub mod Moves
pub mod Plan
pub mod Beginnings
pub mod Control
pub mod Rows
pub mod Reader
pub mod Order
pub mod Answers
pub mod Calls
pub mod Step
pub mod Demands
