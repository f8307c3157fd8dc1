-- The laws by which the questions meet their contracts.
pub mod OneOutput
pub mod UnitAnswers
