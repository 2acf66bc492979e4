pub mod Searching
pub mod Ascending
pub mod Lookups
