pub mod MetaFieldTypes
pub mod SameSchemas
