-- What a session makes of its slot, line by line.
pub mod Looks
pub mod Gains
pub mod Calls
pub mod Asking
pub mod Keeping
pub mod Spans
pub mod Faults
pub mod Turns
pub mod Runs
pub mod Going
pub mod Lines
pub mod Outcomes
pub mod Sessions
