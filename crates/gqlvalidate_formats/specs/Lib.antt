pub mod Severities
pub use Rattle.gqlvalidate_texts.specs.NamedTexts
