-- What the tests ask.
pub mod RecordCall
pub mod Written
