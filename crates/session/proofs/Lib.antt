-- Laws of a session, and the proofs of its functions.
pub mod BeforeUnits
pub mod Cutting
pub mod Fed
pub mod Feeding
pub mod Keeping
pub mod OneOutput
pub mod Taking
pub mod Turning
pub mod WholeInput
pub mod Written
