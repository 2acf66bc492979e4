-- What the operator is shown of one node, of one handle and of the configuration; numbers; and what `show` tells.
pub mod Node
pub mod HighCounts
pub mod Handle
pub mod Config
pub mod Metrics
pub mod Shown
