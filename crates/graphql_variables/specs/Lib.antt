pub mod FirstPlaces
pub mod Searches
pub mod Uses
pub mod VariablesByName
pub mod WalkSteps
