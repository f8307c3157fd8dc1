-- The tables that calls reach: of a network, and of a network and a meter over it.
pub mod MeteredTables
pub mod ReachedTables
