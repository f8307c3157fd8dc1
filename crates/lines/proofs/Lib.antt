-- Laws of words, of decimals and of what follows a command's name.
pub mod Longest
pub mod OneOutput
pub mod Reading
pub mod Choosing
pub mod Decimals
pub mod Words
