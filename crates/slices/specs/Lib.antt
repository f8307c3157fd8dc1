-- Numbers laid over others, numbers that are all 0, and texts put into a buffer behind what is used.
pub mod Greatest
pub mod Putting
pub mod Slices
