pub mod Path
pub mod Faults
pub mod Canonical
pub mod Built
pub mod Members
pub mod Held
