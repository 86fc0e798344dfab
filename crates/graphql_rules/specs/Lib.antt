pub mod RuleSets
pub mod SelectionSteps
