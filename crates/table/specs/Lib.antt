pub mod Answers
pub mod Seek
pub mod Copy
pub mod Operation
pub mod Find
pub mod Order
pub mod Many
