-- Lemmas on what is shown.
pub mod Floats
