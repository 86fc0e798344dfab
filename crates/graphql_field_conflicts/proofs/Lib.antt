pub mod ArgumentComparisonLemmas
pub mod ConflictReportLemmas
pub mod DisagreementLemmas
pub mod FirstFieldLemmas
pub mod FirstNamedLemmas
pub mod ValueComparisonLemmas
