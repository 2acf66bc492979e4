pub mod Busy
pub mod Cluster
pub mod Slots
pub mod Turns
pub mod Preparing
pub mod Absent
pub mod Running
