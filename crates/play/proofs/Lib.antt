-- The laws of the player.
pub mod Lengths
pub mod Rule
pub mod Counted
pub mod Refusals
pub mod Run
pub mod Turned
pub mod Gathered
pub mod Going
pub mod Plays
pub mod Computes
pub mod Ends
