-- The laws by which the network's code meets its contracts stand in the folder of the module of the code that they are of.
pub mod OneOutput
