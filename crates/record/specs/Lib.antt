pub mod Bytes
pub mod Questions
pub mod Nodes
pub mod Record
pub mod Ranges
