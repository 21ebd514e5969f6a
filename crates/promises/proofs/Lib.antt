-- The public contracts, as promises of any program: what they are made of, and those of each crate.
pub mod Contracts
pub mod Witnesses
pub mod Table
pub mod Read
pub mod Place
pub mod Write
pub mod Format
pub mod Play
