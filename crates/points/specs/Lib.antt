pub mod Ranges
pub mod Peak
