pub mod FragmentReaders
pub mod Fragments
pub mod OperationReaders
pub mod Operations
pub mod SelectionReaders
pub mod Selections
