-- The laws of the bytes.
pub mod Bytes
pub mod Records
pub mod Units
pub mod Checks
pub mod Cut
pub mod Computes
