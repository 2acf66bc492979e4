-- The resources of an operator's document, and the lines that tell of them.
pub mod Naming
pub mod Values
pub mod Members
pub mod Resources
pub mod Documents
pub mod Printed
