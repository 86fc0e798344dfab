pub mod FragmentLemmas
pub mod SelectionPartLemmas
pub mod TableLemmas
