-- Laws of the script language, and the proofs of its functions.
pub mod Fates
pub mod OneOutput
pub mod ReadBack
pub mod Room
pub mod Verdicts
