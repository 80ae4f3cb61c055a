pub mod Decimal
pub mod Prints
pub mod Numbers
pub mod Scans
