pub mod Input
pub mod Runs
