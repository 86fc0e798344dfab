pub mod AsciiLemmas
pub mod NameLemmas
