-- The laws of the loops over slices, for bytes and for numbers.
pub mod Alike
pub mod AllZero
pub mod Cleared
pub mod Greatest
pub mod OneOutput
pub mod Overlaid
pub mod Putting
pub mod Stretches
