-- Laws that several proofs of this crate cite.
mod AllMessages
mod Composed
mod ContentRefusals
mod FinishedCalls
mod HeldFit
mod LaidMessages
pub mod LinkRefusals
pub mod MessageCalls
mod NotedArrays
pub mod OneOutput
pub mod ReadyCalls
