pub mod Adoption
pub mod Lacking
pub mod Rows
