-- Texts: decimals and words as bytes, and the lines that are printed.
pub mod Printed
pub mod Texts
