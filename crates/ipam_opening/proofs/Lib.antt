-- Lemmas on what is found, and on what comes first.
pub mod Found
pub mod Firsts
pub mod Slots
pub mod RowBreaks
pub mod CountBreaks
pub mod LimitBreaks
pub mod Steps
pub mod Telling
pub mod Gathering
pub mod Loads
