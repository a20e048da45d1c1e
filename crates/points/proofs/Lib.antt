pub mod Sizes
pub mod Peaks
