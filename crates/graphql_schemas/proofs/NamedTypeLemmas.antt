-- Types of a schema, each under its name.
use Rattle.std.proofs.Common.{◌≡◌, ◌⊎◌, inl, inr, List, refl, Contains}
use Rattle.std.specs.Prelude.{Option, Result}
use Rattle.graphql_diagnostics.specs.Diagnostics.{IsDiagnostic, IsLimitEntry, DiagnosticReport}
use Rattle.graphql_specification.specs.InputValueDefinitions.{NameReport, of_reserved_name}
use Rattle.graphql_specification.specs.InputObjectCycles.{InputObjectLimit, required_fields_nest, InputObjectCycleReport}
use Rattle.graphql_specification.specs.Types.{TypesLimit, input_object_nests, TypesReport, name_of_type, type_breaks, TypeHolds, TypeReport, input_object_requires_itself}
use Rattle.graphql_nodes.specs.Names.{IsFreeName, NameText}
use Rattle.graphql_diagnostics.specs.Reports.{Reports}
use Rattle.graphql_documents.specs.Schemas.{kind_text}
use Rattle.graphql_diagnostics.specs.declared.data.DiagnosticData.{DiagnosticData}
use Rattle.graphql_diagnostics.specs.declared.details.Details.{Details}
use Rattle.graphql_diagnostics.specs.declared.lists.DiagnosticEntry.{DiagnosticEntry}
use Rattle.graphql_documents.specs.declared.documents.schemas.ExtendedType.TheVariants as types
use Rattle.graphql_documents.specs.declared.documents.schemas.ExtendedType.{ExtendedType}
use Rattle.graphql_documents.specs.declared.documents.schemas.InputObjectType.{InputObjectType}
use Rattle.graphql_documents.specs.declared.documents.schemas.Schema.{Schema}
use Rattle.graphql_nodes.specs.declared.nodes.Node.{Node}
use Rattle.graphql_nodes.specs.declared.spans.SourceSpan.{SourceSpan}
use Rattle.graphql_diagnostics.proofs.DiagnosticLemmas.{diagnostic_wider}
use Rattle.graphql_diagnostics.proofs.ReportLemmas.{wider}
use Rattle.graphql_diagnostics.proofs.ReportWithinLemmas.{ChecksListWithin, checks_after_within, within}
use Rattle.graphql_schemas.proofs.TypeLemmas.{checks_wider_within}
use Rattle.graphql_schemas.specs.TypeSteps.{NamedTypeReport, TypeLimit}

-- what is reported of a type by its kind
abbrev pub KindEntryReport : Schema → ExtendedType → DiagnosticEntry → Type 0
KindEntryReport schema d e = IsDiagnostic (TypeReport schema d) e ⊎ TypeLimit schema d e.details e.location

-- and with its name
abbrev pub TypeEntryReport : Schema → NameText → ExtendedType → DiagnosticEntry → Type 0
TypeEntryReport schema key d e = IsDiagnostic (NamedTypeReport schema key d) e ⊎ TypeLimit schema d e.details e.location

-- what is reported of all types of a schema
abbrev pub TypesEntryReport : Schema → DiagnosticEntry → Type 0
TypesEntryReport schema e = IsDiagnostic (TypesReport schema) e ⊎ IsDiagnostic (TypesLimit schema) e

-- a diagnostic that an input object requires itself, or nests too deep, is one of its kind
pub names_input_object_cycle : (schema : Schema) (d : Node InputObjectType) (e : DiagnosticEntry) →
    IsDiagnostic (InputObjectCycleReport schema d) e ⊎ InputObjectLimit schema d e.details e.location → KindEntryReport schema (types.InputObject d) e
names_input_object_cycle schema d e (inl said) =
    inl (diagnostic_wider (InputObjectCycleReport schema d) (TypeReport schema (types.InputObject d)) (λ r at cycle. input_object_requires_itself cycle) e said)
names_input_object_cycle schema d e (inr limit) = inr limit

module _ (schema : Schema) (key : NameText) (d : ExtendedType) where
  pub names_key : (e : DiagnosticEntry) → IsDiagnostic (NameReport (kind_text d) key) e → TypeEntryReport schema key d e
  names_key e said = inl (diagnostic_wider (NameReport (kind_text d) key) (NamedTypeReport schema key d) (λ r at breaks. inl breaks) e said)

  pub names_kind : (e : DiagnosticEntry) → KindEntryReport schema d e → TypeEntryReport schema key d e
  names_kind e (inl said) = inl (diagnostic_wider (TypeReport schema d) (NamedTypeReport schema key d) (λ r at breaks. inr breaks) e said)
  names_kind e (inr limit) = inr limit

  -- the name, and then what the kind asks
  pub type_checked : {T E : Type 0} (r : Result T E) (old mid new : List DiagnosticEntry) →
      Reports (IsFreeName key) (IsDiagnostic (NameReport (kind_text d) key)) old mid →
      ChecksListWithin IsLimitEntry r (TypeHolds schema d) (KindEntryReport schema d) mid new →
      ChecksListWithin IsLimitEntry r (IsFreeName key × TypeHolds schema d) (TypeEntryReport schema key d) old new
  type_checked r old mid new by_name by_kind =
      checks_after_within IsLimitEntry r (IsFreeName key) (TypeHolds schema d) (TypeEntryReport schema key d) old mid new
      (within IsLimitEntry (wider names_key by_name))
      (checks_wider_within r (TypeHolds schema d) (KindEntryReport schema d) (TypeEntryReport schema key d) mid new names_kind by_kind)

-- a diagnostic on one of the types is one on them together
module _ (schema : Schema) (key : NameText) (d : ExtendedType) (stands : Contains schema.types.entries (key, d)) where
  of_named : (r : DiagnosticData) (at : Option SourceSpan) → NamedTypeReport schema key d r at → TypesReport schema r at
  of_named r at (inl (of_reserved_name said)) = name_of_type stands said
  of_named r at (inr breaks) = type_breaks stands breaks

  of_limit : (d' : ExtendedType) → d ≡ d' → (said : Details) (at : Option SourceSpan) → TypeLimit schema d' said at → DiagnosticReport (TypesLimit schema) said at
  of_limit (types.InputObject o) is said at (required_fields_nest nests) = input_object_nests stands is nests
  of_limit (types.Scalar o) is said at none = absurd none
  of_limit (types.Object o) is said at none = absurd none
  of_limit (types.Interface o) is said at none = absurd none
  of_limit (types.Union o) is said at none = absurd none
  of_limit (types.Enum o) is said at none = absurd none

  pub names_type : (e : DiagnosticEntry) → TypeEntryReport schema key d e → TypesEntryReport schema e
  names_type e (inl said) = inl (diagnostic_wider (NamedTypeReport schema key d) (TypesReport schema) of_named e said)
  names_type e (inr limit) = inr (of_limit d refl e.details e.location limit)
