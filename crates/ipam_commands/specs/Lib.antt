-- What the operator's commands write, and what `apply` does.
pub mod Courses
pub mod Changing
pub mod Telling
pub mod Texts
pub mod Statuses
pub mod Outside
pub mod Applying
pub mod ToldApply
pub mod Ready
pub mod Inputs
pub mod Applied
pub mod Reported
pub mod Parts
pub mod Printed
pub mod Words
pub mod Run
