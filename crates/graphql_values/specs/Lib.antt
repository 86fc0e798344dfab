pub mod DirectiveSteps
pub mod EntriesByName
pub mod GivenArguments
pub mod Repetitions
pub mod ValueSteps
pub mod VariableSteps
