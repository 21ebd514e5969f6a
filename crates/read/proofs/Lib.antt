-- The laws of the reader's side.
pub mod Same
pub mod Phases
pub mod Table
pub mod Verdicts
pub mod Cases
pub mod Rising
pub mod FreeOrder
pub mod Orderly
pub mod Inner
pub mod Computes
