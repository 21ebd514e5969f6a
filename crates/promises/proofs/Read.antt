-- The public contracts of `read`.
pub mod Promises
pub mod Determined
pub mod Wrong
