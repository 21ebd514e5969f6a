pub mod Inner
pub mod Laws
pub mod Values
