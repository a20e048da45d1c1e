pub mod Halving
pub mod FirstHit
pub mod Search
pub mod Answers
