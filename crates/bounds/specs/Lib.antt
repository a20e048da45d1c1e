pub mod Probe
pub mod Place
