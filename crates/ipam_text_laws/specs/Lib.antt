-- Which answers and entries are sound, what whole lines and journals are, and what of an environment is sent.
pub mod Answers
pub mod Limits
pub mod Entries
pub mod Whole
pub mod Names
pub mod Journals
pub mod Sent
