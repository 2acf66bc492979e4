-- Lemmas on pages, keys, words and texts.
pub mod KeysCompared
pub mod PageLemmas
pub mod SearchLemmas
pub mod PlaceWrites
pub mod AdjacentKeys
pub mod RowSearch
pub mod RowWrites
pub mod RowKinds
pub mod BlockListLemmas
pub mod KeyTextLemmas
pub mod DatastoreLemmas
pub mod WordLemmas
pub mod HearingLemmas
pub mod BlockMembers
pub mod RecordTexts
