-- The rules of one unit, of the network of units, of their messages, their tables and the tracer.
pub mod Event
pub mod Hub
pub mod Message
pub mod Network
pub mod NetworkTable
pub mod Tables
pub mod Tracer
pub mod Unit
