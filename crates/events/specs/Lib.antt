-- What the code of events is made of: a unit's event told to a copy of its table, and the event taking place.
pub mod Happening
pub mod Telling
