-- What the recomputation's functions are stated with, beside the definitions of trees.
pub mod Flat
pub mod Legal
pub mod Settling
pub mod Successors
