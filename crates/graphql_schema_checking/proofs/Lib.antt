pub mod ByNameLemmas
pub mod RuleLemmas
