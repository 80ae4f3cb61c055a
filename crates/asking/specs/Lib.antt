pub mod DescriptionFile
pub mod Sizes
pub mod Merge
pub mod Beside
pub mod Calls
