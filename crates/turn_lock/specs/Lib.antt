pub mod Histories
pub mod Rule
pub mod Moves
pub mod Passes
