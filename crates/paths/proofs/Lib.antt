-- The laws of sets of units, of the tracer's turns and of its answers.
pub mod OneOutput
pub mod Sets
pub mod TraceAnswers
pub mod Turns
