-- What the operator is shown of a datastore, and what `get` tells of rows.
pub mod Kept
pub mod Counts
pub mod Scopes
pub mod Left
pub mod Columns
pub mod Words
pub mod Pools
pub mod Json
pub mod Blocks
pub mod Address
pub mod InUse
pub mod Addresses
pub mod Usage
pub mod Rows
