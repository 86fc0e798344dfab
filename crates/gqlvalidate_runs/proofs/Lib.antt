mod IgnoredLemmas
mod KeptLemmas
