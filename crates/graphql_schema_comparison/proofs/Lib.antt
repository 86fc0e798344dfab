pub mod ExplainedLemmas
pub mod FieldLemmas
pub mod KeptLemmas
pub mod KindLemmas
pub mod PossibleLemmas
