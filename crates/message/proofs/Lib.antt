-- Laws that several proofs of this crate cite.
pub mod Counts
pub mod KindNumbers
pub mod NumberAnswers
pub mod OneAnswer
pub mod OneOutput
pub mod ReaderAnswers
pub mod Readings
pub mod Rising
pub mod RoundTrip
pub mod Writings
