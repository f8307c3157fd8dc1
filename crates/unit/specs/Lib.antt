-- What the functions of one unit's calls are stated with, beside the rules.
pub mod Calls
pub mod Noting
pub mod Reacted
pub mod Sending
