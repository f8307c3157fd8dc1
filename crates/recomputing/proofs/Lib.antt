-- Laws that several proofs of this crate cite, and those by which others know the recomputation.
mod Choosing
pub mod CopiedRows
pub mod OneOutput
pub mod Recomputing
mod Rounds
mod Scanning
mod Settled
