pub mod DoLemmas
pub mod CallLemmas
pub mod Causes
pub mod Complete
pub mod SoundScripts
pub mod Playing
pub mod Writing
pub mod Generating
pub mod NameLemmas
pub mod BaseLemmas
pub mod CountLemmas
pub mod RunLemmas
pub mod AddLemmas
pub mod DrawLemmas
pub mod RunOutLemmas
pub mod CollectLemmas
pub mod OwnerLemmas
pub mod CourseLemmas
pub mod Begun
pub mod Runs
pub mod LookVersions
pub mod Versions
pub mod Openings
pub mod Shortness
pub mod CniStatuses
pub mod Makings
pub mod Told
pub mod TryAgain
mod Ready
pub mod Spared
mod ToldAlone
mod SoundRequests
pub mod Records
