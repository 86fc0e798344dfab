pub mod ImplementationSteps
