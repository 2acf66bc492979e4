-- What is read of values, and that what is read of a document is sound.
pub mod ValueLemmas
pub mod DocumentParts
pub mod SoundChanges
