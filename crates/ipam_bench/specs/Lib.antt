-- What the measurements ask.
pub mod Counted
