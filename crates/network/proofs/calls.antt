-- The laws by which the calls meet their contracts.
pub mod CallAnswers
pub mod CallEvents
pub mod Delivery
pub mod EventTrials
pub mod FirstRefusals
pub mod OneEvent
pub mod TwoEvents
