-- Lemmas on CIDRs, slots and texts.
pub mod CidrLemmas
pub mod HoldingLemmas
pub mod SlotLemmas
pub mod WordLemmas
pub mod SlashLemmas
pub mod TextLemmas
pub mod PrintLemmas
pub mod SpelledLemmas
pub mod CidrTextLemmas
pub mod BufferLemmas
