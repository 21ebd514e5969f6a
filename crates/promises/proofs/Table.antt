-- The public contracts of `table`.
pub mod Promises
pub mod Determined
pub mod Wrong
