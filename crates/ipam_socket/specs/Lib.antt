-- Which address a word says, how long is waited, and what is known of links, gates and listeners.
pub mod Addresses
pub mod Waiting
pub mod Links
pub mod Listening
