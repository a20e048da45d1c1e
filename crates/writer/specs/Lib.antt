pub mod Bytes
pub mod Given
pub mod Storable
pub mod Writer
