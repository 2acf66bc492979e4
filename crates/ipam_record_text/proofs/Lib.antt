-- What is held in a body, and that each kind's body is read back.
pub mod Held
pub mod Parts
pub mod Configs
pub mod Affinities
pub mod Standing
pub mod RuleLemmas
pub mod PoolTables
pub mod Insertions
pub mod Handles
pub mod ReservationLists
