-- Lemmas on pools, and on spans.
pub mod Accepting
pub mod Changing
pub mod Named
pub mod SlotsLemmas
pub mod Gaps
pub mod Merging
pub mod Members
pub mod Rooms
