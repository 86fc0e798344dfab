pub mod GuardLoans
pub mod Guards
