mod DocumentLemmas
mod LeftLemmas
mod SchemaLemmas
