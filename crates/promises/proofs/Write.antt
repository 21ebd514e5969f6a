-- The public contracts of `write`.
pub mod Promises
pub mod Determined
pub mod Wrong
