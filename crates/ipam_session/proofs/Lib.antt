-- What lines ask and what they are replied.
pub mod Utf8
pub mod Asked
pub mod Refused
pub mod NoFloats
pub mod Replied
pub mod Taking
pub mod Skipping
pub mod Fronts
