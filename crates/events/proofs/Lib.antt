-- The laws by which the code of events meets its contracts, and what an event makes of tables that hold a network.
pub mod HeldNetwork
pub mod LaidTables
pub mod MessageRoom
pub mod OneOutput
pub mod PutMessages
pub mod TakesPlace
pub mod ToldUnit
