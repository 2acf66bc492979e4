pub mod Opened
pub mod Standing
