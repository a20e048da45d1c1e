pub mod Range
pub mod Extrema
pub mod Rounding
pub mod Vector
pub mod Distance
pub mod Fraction
