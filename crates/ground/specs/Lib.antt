-- What every rule is written with: bytes that have a meaning, rows of numbers, what holds of each member of a list,
-- numbers that are distinct, the product's limits, refusals and their numbers, what an answer says, and what it is that a contract leaves one output.
pub mod Bytes
pub mod Distinct
pub mod Each
pub mod Limits
pub mod Refusal
pub mod Refused
pub mod Rows
pub mod Said
pub mod Unique
