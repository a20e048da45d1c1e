pub mod Marching
pub mod Worst
pub mod Turns
pub mod Demands
pub mod Within
pub mod Calls
pub mod NoLength
