-- How the meter's code reads its table, and the numbers of its answers.
pub mod Fates
pub mod Reading
