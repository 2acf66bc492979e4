-- No answer's JSON has a float. Lemmas for the lines of scripts.
pub mod Floats
pub mod Bytes
pub mod WordLemmas
pub mod Cuts
