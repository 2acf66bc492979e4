pub mod Live
pub mod Suspects
pub mod Tally
pub mod Frees
pub mod Collect
pub mod Leaks
