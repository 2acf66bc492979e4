-- What words name.
pub mod Kinds
pub mod Views
pub mod Words
pub mod Daemon
pub mod Upkeep
pub mod Given
