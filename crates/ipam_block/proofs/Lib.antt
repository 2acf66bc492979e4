-- Lemmas on blocks and on handles.
pub mod Members
pub mod Ordinals
pub mod FreeOrdinals
pub mod Ascending
pub mod Assigning
pub mod Freeing
pub mod Tested
pub mod Marks
pub mod Searched
pub mod States
pub mod Order
pub mod Entries
pub mod Reading
pub mod Search
