-- The script language: what a command does, and what a line prints and leaves of the tables.
pub mod Acting
pub mod Answers
