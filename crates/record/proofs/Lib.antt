pub mod Questions
pub mod Bytes
pub mod Ranges
