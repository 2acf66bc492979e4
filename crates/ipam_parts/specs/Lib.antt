pub mod Writes
pub mod Tries
pub mod Reading
pub mod Raising
pub mod Lowering
pub mod Freeing
pub mod Claim
pub mod Release
