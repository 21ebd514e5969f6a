-- Demand 1: what is refused, and that a refusal changes nothing.
pub mod Untaken
pub mod Ordered
pub mod Judged
pub mod Refused
