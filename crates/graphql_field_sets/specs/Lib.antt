pub mod Texts
pub use Rattle.graphql_frontend.specs.Schemas
