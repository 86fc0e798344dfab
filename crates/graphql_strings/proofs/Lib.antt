pub mod PartLemmas
pub mod LineLemmas
pub mod ValueLemmas
pub mod TokenLemmas
pub mod TextLemmas
