mod AdoptionLemmas
mod RowLemmas
