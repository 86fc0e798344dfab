pub mod Agreement
pub mod OperationRules
