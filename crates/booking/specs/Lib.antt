pub mod Asks
pub mod HeldFiles
pub mod AskSamples
