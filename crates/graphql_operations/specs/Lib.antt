pub mod Contexts
pub mod DeferLabels
pub mod FragmentUses
pub mod OperationDefers
pub mod PossibleTypes
pub mod Subscriptions
pub mod UsedFragments
