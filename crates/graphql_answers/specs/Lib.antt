pub mod Answers
pub mod Batches
pub mod Files
pub mod Objects
pub mod Sessions
pub mod Written
pub use Rattle.graphql_kept_projects.specs.Frontend
