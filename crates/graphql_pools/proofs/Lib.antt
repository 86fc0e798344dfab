mod FirstLemmas
mod PoolLemmas
mod UseLemmas
