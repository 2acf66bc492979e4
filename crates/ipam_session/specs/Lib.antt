-- What the lines of a session ask and are replied, and a page of the rows of one kind.
pub mod Wishes
pub mod Replies
pub mod Calls
pub mod Lines
pub mod Page
