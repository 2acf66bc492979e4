-- The JSON of answers, the lines of entries, and the lines of scripts.
pub mod Answers
pub mod Entries
pub mod Words
pub mod Reading
pub mod Lines
