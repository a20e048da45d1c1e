pub mod Offsets
pub mod Lists
pub mod Places
pub mod Appending
pub mod Passing
pub mod Sizes
pub mod Loading
