pub mod RuleNames
pub mod Shown
pub mod ShownTexts
pub use Rattle.graphql_frontend.specs.declared.reports.Reports
pub use Rattle.graphql_frontend.specs.declared.texts.SourceText
pub use Rattle.graphql_frontend.specs.declared.texts.SyntaxReport
