pub mod Ends
pub mod Tested
pub mod Sizes
pub mod Serving
pub mod Stack
pub mod Turns
pub mod Places
pub mod Searchables
