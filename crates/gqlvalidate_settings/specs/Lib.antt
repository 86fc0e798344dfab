pub mod Configurations
pub mod Dialects
pub mod Keys
pub mod Paths
pub mod Projects
pub mod Refusals
pub mod Rules
pub mod Settings
