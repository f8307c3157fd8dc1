-- What the code of fitness is made of: one unit's table among those of all, and fitness part by part.
pub mod PartsFit
pub mod UnitTables
