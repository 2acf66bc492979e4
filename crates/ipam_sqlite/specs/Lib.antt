-- What is known of a keeper over a file.
pub mod Answers
pub mod Order
pub mod Refused
