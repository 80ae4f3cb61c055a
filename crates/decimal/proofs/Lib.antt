pub mod DecimalLaws
pub mod Spelling
pub mod PrintLaws
pub mod ScanLaws
pub mod FoundLaws
