-- The laws by which the meter's code meets its contracts.
pub mod AddsUp
pub mod CallAnswers
pub mod Found
pub mod MeterAnswers
pub mod MeterFit
pub mod OneFate
pub mod OneOutput
pub mod ReadFrames
pub mod Refusals
