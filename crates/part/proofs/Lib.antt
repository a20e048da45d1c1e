pub mod Records
pub mod Trailer
pub mod File
pub mod Accepted
pub mod Leading
