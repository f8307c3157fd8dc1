-- The laws by which the queues' code meets its contracts, and what others need of queues and parcels.
pub mod OneOutput
pub mod OneParcel
pub mod QueueMessages
pub mod QueueThere
pub mod SentParcels
