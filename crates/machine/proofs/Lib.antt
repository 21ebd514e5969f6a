-- The laws of the calls on the whole machine.
pub mod Callings
pub mod Rows
pub mod Inner
pub mod Logged
