pub mod CourseRuns
pub mod ChangeRuns
pub mod RouteLines
pub mod Loadings
mod Refusals
pub mod Wanting
pub mod AdminWords
pub mod DocumentKinds
pub mod Readiness
pub mod Steps
pub mod Runs
pub mod Endings
pub mod AnySource
pub mod FixedLines
pub mod AuditSteps
pub mod Listing
pub mod Bounds
pub mod Counting
pub mod Opened
pub mod Sharing
mod Causes
