-- The tracer's answer, and the numbers that stand for it.
pub mod Tracing
