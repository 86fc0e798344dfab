pub mod DefaultValueReports
pub mod FoundExtensions
pub mod RootSteps
pub mod SchemaChecks
pub mod TypeMapChanges
pub mod TypeSteps
