pub use Rattle.graphql_report_formats.specs.NamedTexts
