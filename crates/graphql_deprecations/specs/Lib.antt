pub mod Deprecations
pub mod InOrder
pub mod Usages
