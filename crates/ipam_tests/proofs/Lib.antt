-- Lemmas on what the tests ask.
pub mod SoundWrites
