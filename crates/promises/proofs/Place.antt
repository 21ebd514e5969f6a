-- The public contracts of `place`.
pub mod Determined
pub mod Promises
pub mod Wrong
