pub mod BoundLemmas
pub mod DiagnosticLemmas
pub mod ReportLemmas
pub mod ReportWithinLemmas
