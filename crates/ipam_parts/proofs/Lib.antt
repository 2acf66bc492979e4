pub mod TryLaws
pub mod HearingFacts
mod RaisingLemmas
mod LoweringLemmas
pub mod BoundLaws
pub mod FreeingLemmas
pub mod SettledLaws
pub mod FreeingAsks
pub mod QueueFacts
pub mod HeldFacts
pub mod PlaceFacts
mod StageLemmas
mod ReleaseLemmas
