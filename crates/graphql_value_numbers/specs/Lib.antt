pub mod Arguments
pub mod NamedNumbers
pub mod Numbers
pub mod Tables
