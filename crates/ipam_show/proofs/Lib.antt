-- Lemmas on what is shown.
pub mod Chosen
pub mod Counted
pub mod Floats
pub mod Found
pub mod Steps
