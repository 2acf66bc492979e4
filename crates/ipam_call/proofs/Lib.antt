-- What is sent, and what is taken for a reply.
pub mod Inputs
pub mod NoFloats
pub mod Outcomes
pub mod Wholes
pub mod Statuses
pub mod Empty
pub mod Tellings
pub mod ErrorTexts
mod Refused
mod Seen
mod Texts
mod Nobody
