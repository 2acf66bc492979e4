-- Lemmas on writes that create.
pub mod SoundWrites
