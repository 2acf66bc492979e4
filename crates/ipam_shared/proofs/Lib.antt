pub mod Slots
mod Passing
mod Holding
mod Answering
mod Turning
mod Calling
mod Routing
mod Looking
pub mod Settled
pub mod SentSelectors
pub mod SentRows
pub mod SentStore
pub mod SentParts
pub mod SentProcedures
pub mod SentCluster
pub mod SentShared
pub mod SentMemory
pub mod TextRows
pub mod StoreTexts
pub mod Doubts
pub mod Given
pub mod Fed
pub mod Standing
pub mod FedStanding
pub mod SureStanding
pub mod Openings
pub mod Histories
pub mod SoloStanding
pub mod Ending
pub mod StepLemmas
pub mod Calls
pub mod Courses
pub mod Running
pub mod Instead
pub mod OnceSure
