pub mod Machine
pub mod Admission
pub mod Handles
pub mod Calls
