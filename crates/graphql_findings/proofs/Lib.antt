mod FindingLemmas
mod OrderLemmas
mod SingleLemmas
