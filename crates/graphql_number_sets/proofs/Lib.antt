pub mod BitLemmas
pub mod CountLemmas
pub mod NumberLemmas
