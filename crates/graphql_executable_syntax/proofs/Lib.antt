pub mod Deepening
pub mod FragmentLemmas
pub mod OperationLemmas
pub mod SelectionLemmas
pub mod SelectionLocality
pub mod SelectionReading
pub mod SelectionSoundness
pub mod VariableDefinitionLemmas
