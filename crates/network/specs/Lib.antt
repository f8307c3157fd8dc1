-- What the network's code is made of beside its tables, queues and events: the refusals that come first.
pub mod FirstRefusals
