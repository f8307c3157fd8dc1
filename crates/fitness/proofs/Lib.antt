-- The laws by which the code of fitness meets its contracts, and what others need of a unit's table among all.
pub mod FitOfParts
pub mod FitTables
pub mod OneOutput
pub mod PartsOfFit
pub mod PartsRead
pub mod PlacesFit
pub mod SuccessorSets
pub mod TableThere
pub mod Tiles
