pub mod DirectiveLocations
pub mod NameParts
pub mod Names
pub mod Nodes
pub mod OperationTypes
pub mod Spans
