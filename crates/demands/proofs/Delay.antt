-- Demand 3, and what else follows: who delays a publish, when it ends, and how long a guard stays.
pub mod Admitted
pub mod RunIsSteps
pub mod Counts
pub mod Kept
pub mod Always
pub mod Named
pub mod Stays
pub mod Ends
