-- What a CNI call asks, and the texts of its answers.
pub mod Version
pub mod Command
pub mod Code
pub mod Refusal
pub mod Reading
pub mod Environment
pub mod Configuration
pub mod Asked
pub mod Looking
pub mod Texts
pub mod Sound
