-- The public contracts of `format`.
pub mod Promises
pub mod Determined
pub mod Wrong
