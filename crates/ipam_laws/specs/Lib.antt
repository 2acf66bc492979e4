-- Most laws are stated in the model.
pub mod RightAnswers
pub mod AlonePlain
pub mod Writes
pub mod Claims
pub mod Excess
pub mod Queues
pub mod Right
