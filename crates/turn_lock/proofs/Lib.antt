pub mod Totals
pub mod Numbering
pub mod Keeping
pub mod Passing
