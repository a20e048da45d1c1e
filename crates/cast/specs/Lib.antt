pub mod Ticks
pub mod Column
pub mod Questions
pub mod Calls
pub mod Demands
