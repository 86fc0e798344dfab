mod ConfigurationLemmas
mod ListLemmas
mod PathLemmas
