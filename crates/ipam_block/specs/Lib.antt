-- Blocks, affinities and handles as contracts see them.
pub mod Kept
pub mod Pairs
pub mod Shape
pub mod Sound
pub mod Operations
pub mod Picked
pub mod Test
pub mod State
pub mod HandleShape
pub mod Order
pub mod HandleSound
pub mod HandleOperations
pub mod Places
