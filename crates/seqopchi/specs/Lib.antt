pub mod Files
pub mod Demand
pub mod Unpacks
pub mod Samples
