pub mod Comparisons
pub mod Conflicts
pub mod FieldEquality
pub mod FieldSelections
pub mod FirstFields
