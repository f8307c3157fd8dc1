-- Laws of the meter.
pub mod Accounts
pub mod Effect
pub mod FreePlaces
pub mod LaidMeter
pub mod Metered
