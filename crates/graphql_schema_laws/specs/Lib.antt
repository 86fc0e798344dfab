pub mod BuiltInNames
pub mod InputFields
