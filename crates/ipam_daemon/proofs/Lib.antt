pub mod Idle
pub mod Counts
pub mod Ended
