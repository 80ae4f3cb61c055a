pub mod Words
pub mod Runs
pub mod Passes
pub mod Calls
