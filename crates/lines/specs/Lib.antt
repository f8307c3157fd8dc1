-- Lines of a script: their words, and the command that a line is.
pub mod Commands
pub mod Following
pub mod Words
