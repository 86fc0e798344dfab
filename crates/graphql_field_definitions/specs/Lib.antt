pub mod BuiltInScalarUses
pub mod FieldDefinitionSteps
