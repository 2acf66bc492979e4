-- What a table keeps, what its statements do, and what a keeper over it makes of that.
pub mod TableState
pub mod Faults
pub mod Order
