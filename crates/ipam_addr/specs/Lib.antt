-- Addresses, CIDRs, slots and their texts, as contracts see them.
pub mod Shape
pub mod Width
pub mod Holding
pub mod Made
pub mod Slots
pub mod Names
pub mod Text
