pub mod Senders
pub mod Inputs
pub mod Search
pub mod Faults
pub mod Tasks
