-- What the functions over one unit's table are stated with, beside the rules.
pub mod Asked
pub mod Holding
