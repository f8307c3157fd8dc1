-- Laws that several proofs of this crate cite, and those by which others know a unit's state.
pub mod Fitness
pub mod Fresh
pub mod Holding
pub mod ListedAnswers
pub mod OneOutput
pub mod QuestionAnswers
pub mod Successors
pub mod Tables
