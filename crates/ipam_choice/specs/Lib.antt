-- What a choice is made from and what it is, as contracts see it.
pub mod Picked
pub mod First
pub mod Sight
pub mod Blocks
pub mod Ahead
pub mod Level
pub mod Viewed
pub mod Confirmed
pub mod Scanned
pub mod Known
