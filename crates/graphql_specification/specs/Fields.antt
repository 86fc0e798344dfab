-- When a field holds, and what a diagnostic says of one. Specification: 5.3 Fields, 5.4 Arguments.
use Rattle.std.specs.Prelude.{◌≡◌, Option, Some, ◌≢◌, true, [], List, ℕ}
use Rattle.std.specs.Option.{option_and_then}
use Rattle.std.specs.Borrow.{Bor}
use Rattle.graphql_nodes.specs.Names.{NameText}
use Rattle.graphql_documents.specs.Schemas.{type_definition, is_composite, kind_text}
use Rattle.graphql_documents.specs.TypeReferences.{inner_named_type}
use Rattle.graphql_documents.specs.Selections.{selections_of, definition_at}
use Rattle.graphql_specification.specs.Arguments.{ArgumentNamesHold, HasDistinctNames, ArgumentValuesHold, LacksArgument, MissesArgument, RepeatsArgument, ArgumentValuesReport}
use Rattle.graphql_specification.specs.Directives.{ApplicationsHold, DirectivesReport}
use Rattle.graphql_diagnostics.specs.Diagnostics.{IsDiagnostic}
use Rattle.graphql_documents.specs.declared.documents.schemas.Schema.{Schema}
use Rattle.graphql_documents.specs.declared.documents.schemas.ExtendedType.{ExtendedType}
use Rattle.graphql_documents.specs.declared.documents.executables.Field.{Field}
use Rattle.graphql_documents.specs.declared.documents.type_references.Type.{«Type»}
use Rattle.graphql_documents.specs.declared.documents.definitions.FieldDefinition.{FieldDefinition}
use Rattle.graphql_documents.specs.declared.documents.components.Component.{Component}
use Rattle.graphql_nodes.specs.declared.nodes.Node.{Node}
use Rattle.graphql_documents.specs.declared.documents.definitions.VariableDefinition.{VariableDefinition}
use Rattle.graphql_coordinates.specs.declared.coordinates.TypeAttributeCoordinate.{TypeAttributeCoordinate}
use Rattle.graphql_nodes.specs.declared.spans.SourceSpan.{SourceSpan}
use Rattle.graphql_diagnostics.specs.declared.data.DiagnosticData.{DiagnosticData}
use Rattle.graphql_diagnostics.specs.declared.lists.DiagnosticEntry.{DiagnosticEntry}
use Rattle.graphql_nodes.specs.declared.directive_locations.DirectiveLocation.TheVariants as allowed_at
use Rattle.graphql_diagnostics.specs.declared.data.DiagnosticData.TheVariants as report
use Rattle.graphql_coordinates.specs.declared.coordinates.SchemaCoordinate.TheVariants as coordinate

-- with a schema, the type with this name is defined
abbrev pub HasDefinition : Option Schema → NameText → ExtendedType → Type 0
HasDefinition schema name definition = option_and_then (λ s. type_definition s name) schema ≡ Some definition

-- a field of this type selects something if that is composite. Specification: 5.3.3 Leaf Field Selections
abbrev pub HasNeededSelection : Option Schema → Field → «Type» → Type 0
HasNeededSelection schema f ty =
    (definition : ExtendedType) → HasDefinition schema (inner_named_type ty) definition → is_composite definition ≡ true →
    selections_of f.selection_set ≢ []

-- the form of the field agrees with its definition: the names of its arguments do, and it selects
-- something where it must
pub record AgreesWithDefinition (schema : Option Schema) (f : Field) (definition : FieldDefinition) : Type 0 where
  pub arguments : ArgumentNamesHold definition.arguments.items f.arguments.items
  pub selection : HasNeededSelection schema f definition.ty

-- the form of the field holds on this type: its argument names are distinct, and it
-- agrees with its definition, where it has one there
pub record FieldFormHolds (schema : Option Schema) (parent : Option NameText) (f : Field) : Type 0 where
  pub distinct : HasDistinctNames f.arguments.items
  pub agrees : (d : Component FieldDefinition) → definition_at schema parent f.name ≡ Some d →
      AgreesWithDefinition schema f d.node.value.value

-- with a schema, the values of the field's arguments hold, where it has a definition on the type
abbrev pub FieldValuesHold : Option Schema → List (Node VariableDefinition) → Option NameText → Field → Type 0
FieldValuesHold schema variables parent f =
    (s : Schema) (d : Component FieldDefinition) → schema ≡ Some s → definition_at schema parent f.name ≡ Some d →
    ArgumentValuesHold s variables d.node.value.value.arguments.items f.arguments.items

-- the field holds on this type: its directives do, its form, and the values of its arguments
pub record FieldHolds (schema : Option Schema) (variables : List (Node VariableDefinition)) (parent : Option NameText) (f : Field) : Type 0 where
  pub directives : ApplicationsHold schema variables allowed_at.Field f.directives.items
  pub form : FieldFormHolds schema parent f
  pub values : FieldValuesHold schema variables parent f

-- a field of this type, which is composite, selects nothing: reported at the field
pub record MissesSelection (schema : Option Schema) (parent : NameText) (f : Node Field) (ty : «Type») (coordinate : TypeAttributeCoordinate) (output : NameText) (describe : List ℕ) (at : Option SourceSpan) : Type 0 where
  pub definition : ExtendedType
  pub is_defined : HasDefinition schema (inner_named_type ty) definition
  pub composite : is_composite definition ≡ true
  pub empty : selections_of f.value.value.selection_set ≡ []
  pub coordinate_is : coordinate ≡ record { ty = parent; attribute = f.value.value.name }
  pub output_is : output ≡ inner_named_type ty
  pub describe_is : describe ≡ kind_text definition
  pub at_is : at ≡ f.location

-- the diagnostic says so
pub data MissingSelectionReport (schema : Option Schema) (parent : NameText) (f : Node Field) (ty : «Type») : DiagnosticData → Option SourceSpan → Type 0 where
  is_missing : {coordinate : TypeAttributeCoordinate} {output : NameText} {describe : Bor (List ℕ)} {at : Option SourceSpan} →
      MissesSelection schema parent f ty coordinate output describe.now at →
      MissingSelectionReport schema parent f ty (report.MissingSubselection coordinate output describe) at

-- the field is on this type, and has this definition there
pub record IsFieldOf (schema : Option Schema) (parent : Option NameText) (f : Field) (ty : NameText) (d : Component FieldDefinition) : Type 0 where
  pub parent_is : parent ≡ Some ty
  pub definition_is : definition_at schema parent f.name ≡ Some d

-- the diagnostic names a rule that the field breaks on this type
abbrev pub FieldFormReport : Option Schema → Option NameText → Node Field → DiagnosticData → Option SourceSpan → Type 0
FieldFormReport schema parent f (report.UniqueArgument name original redefined) at =
    RepeatsArgument f.value.value.arguments.items name original redefined at
FieldFormReport schema parent f (report.UndefinedArgument name owner location) at =
    (ty : NameText) × (d : Component FieldDefinition) × IsFieldOf schema parent f.value.value ty d ×
    LacksArgument d.node.value.value.arguments.items f.value.value.arguments.items
    (coordinate.TypeAttribute (record { ty = ty; attribute = f.value.value.name })) d.node.location name owner location at
FieldFormReport schema parent f (report.RequiredArgument name owner expected location) at =
    (ty : NameText) × (d : Component FieldDefinition) × IsFieldOf schema parent f.value.value ty d ×
    MissesArgument d.node.value.value.arguments.items f.value.value.arguments.items
    (λ argument. coordinate.FieldArgument (record { ty = ty; field = f.value.value.name; argument = argument })) f.location
    name owner expected location at
FieldFormReport schema parent f (report.MissingSubselection coordinate output describe) at =
    (ty : NameText) × (d : Component FieldDefinition) × IsFieldOf schema parent f.value.value ty d ×
    MissesSelection schema ty f d.node.value.value.ty coordinate output describe.now at
FieldFormReport schema parent f _ at = ⊥

-- the same of an entry
abbrev pub FieldFormEntryReport : Option Schema → Option NameText → Node Field → DiagnosticEntry → Type 0
FieldFormEntryReport schema parent f entry = IsDiagnostic (FieldFormReport schema parent f) entry

-- the values of a field's arguments are wrong
pub record FieldValuesReport (schema : Option Schema) (variables : List (Node VariableDefinition)) (parent : Option NameText) (f : Node Field) (r : DiagnosticData) (at : Option SourceSpan) : Type 0 where
  pub against : Schema
  pub definition : Component FieldDefinition
  pub has_schema : schema ≡ Some against
  pub defined : definition_at schema parent f.value.value.name ≡ Some definition
  pub broken : ArgumentValuesReport against variables definition.node.value.value.arguments.items f.value.value.arguments.items r at

-- the diagnostic names a rule that the field breaks on this type: by its directives, its form, or the values of its
-- arguments
pub data FieldReport (schema : Option Schema) (variables : List (Node VariableDefinition)) (parent : Option NameText) (f : Node Field) : DiagnosticData → Option SourceSpan → Type 0 where
  by_directives : {r : DiagnosticData} {at : Option SourceSpan} →
      DirectivesReport schema variables allowed_at.Field f.value.value.directives.items r at → FieldReport schema variables parent f r at
  by_form : {r : DiagnosticData} {at : Option SourceSpan} →
      FieldFormReport schema parent f r at → FieldReport schema variables parent f r at
  by_values : {r : DiagnosticData} {at : Option SourceSpan} →
      FieldValuesReport schema variables parent f r at → FieldReport schema variables parent f r at
