-- The text of a block, as contracts see it.
pub mod Attributes
pub mod Limits
pub mod Numbering
pub mod Parts
pub mod Body
pub mod Stamps
pub mod Pieces
pub mod Reading
pub mod Form
