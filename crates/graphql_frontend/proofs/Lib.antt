mod BesideLemmas
mod DocumentLemmas
mod FirstReportLemmas
mod MetaFieldLemmas
mod PlaceLemmas
mod ReportLemmas
pub mod RuleSetLemmas
mod SchemaLemmas
mod TextLemmas
mod VerdictLemmas
