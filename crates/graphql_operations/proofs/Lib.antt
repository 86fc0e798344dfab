pub mod DeferLabelLemmas
pub mod DeferLemmas
pub mod DeferWalkLemmas
pub mod MeasureLemmas
pub mod OperationDeferLemmas
mod PossibleTypeLemmas
pub mod SubscriptionLemmas
pub mod UsedFragmentLemmas
pub mod WrittenDeferLaws
pub mod WrittenDeferLemmas
