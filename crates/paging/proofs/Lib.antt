-- The laws by which what `page` prints is that of the rules, and how long it is at most.
pub mod OneOutput
pub mod PageRoom
pub mod Paged
