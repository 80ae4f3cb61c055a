pub mod ListingLaws
pub mod FirstBytes
pub mod Samples
