-- What the queues' code is made of: one queue among the bytes of all, and the messages of an event on their way from the
-- buffer to the queues.
pub mod Parcels
pub mod Queue
