-- Arguments go item by item, items are counted, and a prefix stands after a slash.
pub mod ArgumentItems
pub mod Counts
pub mod Prefixes
pub mod Told
pub mod InputTexts
pub mod NoFloats
pub mod Ascending
pub mod Good
pub mod Pairs
pub mod Soundness
