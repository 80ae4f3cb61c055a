pub mod PhraseLaws
pub mod CompareLaws
pub mod PrintedLaws
pub mod ReadLaws
pub mod ReadsBack
pub mod Holds
pub mod CallBytes
pub mod Samples
