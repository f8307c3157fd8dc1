-- A session of the script program: what a whole input prints, what bytes of it print, and what is lent to a call.
pub mod BeforeUnits
pub mod Feeding
pub mod Input
pub mod Lending
pub mod Taking
pub mod Writing
