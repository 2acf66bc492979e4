-- What a keeper keeps, and what its calls do.
pub mod Rows
pub mod Keeping
pub mod Outside
pub mod MemoryState
pub mod Places
