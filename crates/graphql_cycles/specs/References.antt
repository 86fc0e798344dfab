-- References of the definitions of a schema, as the search for cycles of directives holds them.
use Rattle.std.specs.Prelude.{Bool, false}
use Rattle.graphql_documents.specs.Schemas.{is_built_in}
use Rattle.graphql_documents.specs.declared.documents.schemas.ExtendedType.{ExtendedType}
use Rattle.graphql_documents.specs.declared.documents.schemas.ExtendedType.TheVariants.{InputObject}
use Rattle.graphql_specification.specs.DirectiveCycles.{SchemaReference, by_directive, by_type}
use Rattle.graphql_cycles.specs.declared.schema_references.Reference.{Reference}
use Rattle.graphql_cycles.specs.declared.schema_references.Reference.TheVariants.{Directive, «Type»}

-- a definition that every schema has, and that refers to no type
abbrev pub is_off_path : ExtendedType → Bool
is_off_path (InputObject d) = false
is_off_path d = is_built_in d

-- what a reference says
abbrev pub reference_of : Reference → SchemaReference
reference_of (Directive d) = by_directive d.now
reference_of («Type» name) = by_type name.now
