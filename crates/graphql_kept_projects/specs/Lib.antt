pub mod Documents
pub mod Left
pub mod Rounds
pub mod Schemas
pub use Rattle.graphql_frontend.specs as Frontend
