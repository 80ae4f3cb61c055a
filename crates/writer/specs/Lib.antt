pub mod Write
pub mod Puts
pub mod Equality
pub mod Samples
