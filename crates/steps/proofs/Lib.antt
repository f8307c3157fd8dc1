-- What one event does to a unit and one call to a network: laws that the code's proofs and the theorems both cite.
pub mod AcceptedCalls
pub mod FitReaction
pub mod Fresh
pub mod LinkEnds
pub mod NetworkLists
pub mod OrderlyCalls
pub mod OrderlyNetwork
pub mod SentMessages
