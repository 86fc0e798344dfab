pub mod JsonReports
pub mod NamedTexts
pub use Rattle.graphql_findings.specs as Findings
