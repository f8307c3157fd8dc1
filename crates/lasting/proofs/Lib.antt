-- What lasts over every call: fit networks stay fit, tables that calls reach are never refused as unfit, no message in them
-- is refused, no queue holds more than 2 messages, no frame goes in a circle, and the meter's figures add up.
pub mod Demand
pub mod EitherOrder
pub mod MeterAddsUp
pub mod MixedRuns
pub mod NeverRefused
pub mod ReachedFit
pub mod ShortQueues
pub mod StaysFit
pub mod TablesReached
