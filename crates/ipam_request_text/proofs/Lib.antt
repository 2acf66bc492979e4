-- No request's JSON has a float, and lists of live handles are read back.
pub mod Lists
pub mod Floats
pub mod Lives
pub mod Ascending
pub mod SoundTests
pub mod Bytes
pub mod Gets
pub mod Canonical
pub mod ReadBack
