-- The steps of the checks of types, for the contracts of their private functions.
use Rattle.std.specs.Prelude.{◌≡◌, ◌⊎◌, List, Option}
use Rattle.graphql_specification.specs.InputValueDefinitions.{NameReport}
use Rattle.graphql_specification.specs.Implementations.{FieldList}
use Rattle.graphql_specification.specs.InputObjectCycles.{InputObjectLimit}
use Rattle.graphql_nodes.specs.Names.{NameText}
use Rattle.graphql_documents.specs.Schemas.{fields_of, interfaces_of, kind_text, location_of, own_name}
use Rattle.graphql_specification.specs.Types.{TypeReport}
use Rattle.graphql_diagnostics.specs.declared.data.DiagnosticData.{DiagnosticData}
use Rattle.graphql_diagnostics.specs.declared.details.Details.{Details}
use Rattle.graphql_documents.specs.declared.documents.components.ComponentName.{ComponentName}
use Rattle.graphql_documents.specs.declared.documents.schemas.ExtendedType.TheVariants as types
use Rattle.graphql_documents.specs.declared.documents.schemas.ExtendedType.{ExtendedType}
use Rattle.graphql_documents.specs.declared.documents.schemas.Schema.{Schema}
use Rattle.graphql_nodes.specs.declared.spans.SourceSpan.{SourceSpan}

-- the type has this name, is there, and has these fields and these listed interfaces
pub record AreOf (d : ExtendedType) (name : NameText) (location : Option SourceSpan) (fields : FieldList) (interfaces : List ComponentName) : Type 0 where
  pub name_is : name ≡ own_name d
  pub location_is : location ≡ location_of d
  pub fields_are : fields ≡ fields_of d
  pub interfaces_are : interfaces ≡ interfaces_of d

-- the diagnostic names what is wrong with a type that is under this name, or with the name
abbrev pub NamedTypeReport : Schema → NameText → ExtendedType → DiagnosticData → Option SourceSpan → Type 0
NamedTypeReport schema key d r at = NameReport (kind_text d) key r at ⊎ TypeReport schema d r at

-- a diagnostic of a limit is true of a type, which is an input object
abbrev pub TypeLimit : Schema → ExtendedType → Details → Option SourceSpan → Type 0
TypeLimit schema (types.InputObject d) said at = InputObjectLimit schema d said at
TypeLimit schema _ said at = ⊥
