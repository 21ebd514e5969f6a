-- The laws of the writer's side: of the rules by themselves, and then of the code's parts.
pub mod Verdicts
pub mod Cases
pub mod Control
pub mod Count
pub mod Left
pub mod RunLaws
pub mod Words
pub mod Rising
pub mod Judged
pub mod Refusals
pub mod Reorders
pub mod NeverBroken
pub mod Ops
pub mod Made
pub mod Turns
pub mod Computes
