pub mod Phrases
pub mod Sentence
pub mod Reading
pub mod Promise
pub mod Samples
