pub mod BuiltInScalarLemmas
pub mod FieldDefinitionLemmas
pub mod InputValueLemmas
pub mod TypeNameLemmas
