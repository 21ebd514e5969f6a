-- A batch beside its operations, appended one by one.
pub mod Appends
pub mod Aside
pub mod Ever
