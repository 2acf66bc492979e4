-- Lemmas on slots, on how many of them are busy, on what an entry adds, and on calls.
pub mod SlotLemmas
pub mod Adding
pub mod Calling
pub mod Standing
pub mod Waiting
pub mod Asking
pub mod Opening
pub mod Events
pub mod RowTexts
pub mod AbsentLemmas
pub mod TellingLemmas
pub mod StillLemmas
pub mod FitsLemmas
