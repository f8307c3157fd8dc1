-- Laws of the definitions in specs/: what shortest distances are, and that a recomputed tree has them.
pub mod Alone
pub mod ByPlace
pub mod Cells
pub mod Costs
pub mod Entries
pub mod Follow
pub mod Recomputed
pub mod Rooted
pub mod Shortest
pub mod ShortestTree
pub mod Taken
pub mod Tree
