pub mod Rules
pub mod Given
pub mod Told
pub mod Earlier
pub mod Counts
pub mod Limits
pub mod Opening
pub mod Loading
