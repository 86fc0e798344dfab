pub mod Definitions
pub mod Rules
pub mod SchemaBuilds
pub mod SchemaReports
pub mod Sorting
pub mod Steps
