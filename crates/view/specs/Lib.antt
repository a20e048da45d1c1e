pub mod Floats
pub mod Steps
pub mod Ray
pub mod Call
pub mod Demands
pub mod Numbers
