pub mod Log
pub mod Times
pub mod Calls
pub mod Window
pub mod Ring
pub mod Promise
pub mod Newest
pub mod Samples
