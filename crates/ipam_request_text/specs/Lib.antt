-- The JSON of requests.
pub mod Parts
pub mod Members
pub mod Requests
pub mod Live
pub mod Naming
pub mod Shapes
pub mod Fields
pub mod Tests
pub mod Reading
