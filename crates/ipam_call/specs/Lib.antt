-- What a call sends, what it takes for a reply, how it ends, what is written where the daemon isn't reached,
-- what connects to it, and what the environment says.
pub mod Requests
pub mod Replies
pub mod Versions
pub mod Fixed
pub mod Ends
pub mod Calls
pub mod Values
pub mod CallVariables
pub mod Database
pub mod Daemon
pub mod Unreached
pub mod Connecting
pub mod Patience
