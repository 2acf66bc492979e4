-- The bodies of records: the JSON that each kind has, and what is read of a body.
pub mod Reading
pub mod Blocks
pub mod Config
pub mod Affinity
pub mod Rules
pub mod Pools
pub mod Handle
pub mod Reservations
