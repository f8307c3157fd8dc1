-- Trees, shortest distances, and the recomputation of a unit's tree.
pub mod Recompute
pub mod Shortest
pub mod Tree
