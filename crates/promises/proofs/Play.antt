-- The public contracts of `play`.
pub mod Promises
pub mod Determined
pub mod Wrong
