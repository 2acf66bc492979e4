-- What a script asks for, what comes of it, and what a run of it writes.
pub mod Readings
pub mod Script
pub mod Played
pub mod Output
pub mod Gathering
pub mod SoundLine
pub mod Events
pub mod Times
pub mod Player
pub mod Outcome
pub mod Writing
pub mod Halting
