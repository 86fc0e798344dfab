pub mod OutputFieldLaws
pub mod OwnNameLaws
pub mod SameSchemaLemmas
