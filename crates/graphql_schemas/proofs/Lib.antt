pub mod DefaultValueLemmas
pub mod DirectiveDefinitionLemmas
pub mod ExtensionLemmas
pub mod NamedTypeLemmas
pub mod RootLemmas
pub mod SchemaLemmas
pub mod TypeLemmas
pub mod TypeMapLemmas
