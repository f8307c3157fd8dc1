-- The laws by which what `show` prints is that of the rules.
pub mod OneOutput
pub mod ShownUnits
