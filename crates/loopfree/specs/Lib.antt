-- What demand 3 speaks of: the networks that calls reach and the conditions that these meet, and the paths that follow
-- successors.
pub mod Conditions
pub mod Reached
