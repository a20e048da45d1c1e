pub mod Ranges
pub mod Prepared
pub mod Written
pub mod Loading
