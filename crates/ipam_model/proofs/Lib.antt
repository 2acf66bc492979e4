-- Lemmas on the definitions.
pub mod ChoiceLemmas
pub mod RowsByKey
