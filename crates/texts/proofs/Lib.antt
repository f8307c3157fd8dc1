-- Laws of texts.
pub mod Digits
pub mod Lengths
pub mod OneOutput
pub mod Successors
