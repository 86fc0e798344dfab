-- What the check of a whole schema reports, and what it leaves. Specification: 3 Type System.
use Rattle.std.specs.Prelude.{◌≡◌, ◌⊎◌}
use Rattle.graphql_diagnostics.specs.Diagnostics.{DiagnosticReport}
use Rattle.graphql_specification.specs.Schemas.{SchemaLimit, SchemaReport}
use Rattle.graphql_diagnostics.specs.declared.lists.DiagnosticEntry.{DiagnosticEntry}
use Rattle.graphql_documents.specs.declared.documents.schemas.Schema.{Schema}

-- the entry names a rule that the schema breaks, or a limit that one of its definitions passes
abbrev pub SchemaEntryReport : Schema → DiagnosticEntry → Type 0
SchemaEntryReport schema e = DiagnosticReport (SchemaReport schema) e.details e.location ⊎ DiagnosticReport (SchemaLimit schema) e.details e.location

-- a schema with the same types in the same order, and the same in all else
pub record IsSameSchema (schema other : Schema) : Type 0 where
  pub types : other.types.entries ≡ schema.types.entries
  pub definition : other.schema_definition ≡ schema.schema_definition
  pub directives : other.directive_definitions ≡ schema.directive_definitions
  pub meta_fields : other.meta_fields ≡ schema.meta_fields
