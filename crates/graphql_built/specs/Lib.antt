pub mod BuiltSelections
