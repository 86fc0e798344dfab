-- What helps with a report. Specification: 5 Validation.
use Rattle.std.specs.Prelude.{◌≡◌, ◌≢◌, List, [], Ok}
use Rattle.std.specs.List.{All}
use Rattle.graphql_building_reports.specs.declared.rules.BuildingRule.{BuildingRule}
use Rattle.graphql_building_reports.specs.declared.rules.BuildingRule.TheVariants as rule
use Rattle.graphql_coordinates.specs.declared.coordinates.SchemaCoordinate.{SchemaCoordinate}
use Rattle.graphql_coordinates.specs.declared.coordinates.SchemaCoordinate.TheVariants as coordinates
use Rattle.graphql_diagnostics.specs.declared.data.DiagnosticData.{DiagnosticData}
use Rattle.graphql_diagnostics.specs.declared.data.DiagnosticData.TheVariants as broken
use Rattle.graphql_diagnostics.specs.declared.details.Details.{Details}
use Rattle.graphql_diagnostics.specs.declared.details.Details.TheVariants as details
use Rattle.graphql_documents.specs.Schemas.{IsSubtype, type_field}
use Rattle.graphql_documents.specs.declared.documents.components.Component.{Component}
use Rattle.graphql_documents.specs.declared.documents.definitions.FieldDefinition.{FieldDefinition}
use Rattle.graphql_documents.specs.declared.documents.schemas.Schema.{Schema}
use Rattle.graphql_nodes.specs.Names.{NameText}
use Rattle.graphql_nodes.specs.declared.directive_locations.DirectiveLocation.{DirectiveLocation}
use Rattle.graphql_suggestions.specs.Defined.{argument_names, directive_argument_names, directive_names, enum_value_names, field_names, input_field_names, type_names}
use Rattle.graphql_suggestions.specs.Suggestions.{AreSuggested}
use Rattle.graphql_helps.specs.declared.helps.Help.{Help}
use Rattle.graphql_helps.specs.declared.helps.Help.TheVariants as help

-- one of these names may have been meant by the wanted one
abbrev pub IsDidYouMean : List NameText → NameText → Help → Type 0
IsDidYouMean names wanted (help.DidYouMean found) = (found.items ≢ []) × AreSuggested names wanted found.items
IsDidYouMean names wanted other = ⊥

-- the field of this type needs selections
abbrev pub IsSelect : NameText → NameText → Help → Type 0
IsSelect field ty (help.Select f t) = (f.now ≡ field) × (t.now ≡ ty)
IsSelect field ty other = ⊥

-- the directive may be applied at these locations
abbrev pub AreLocations : List DirectiveLocation → Help → Type 0
AreLocations locations (help.Locations shown) = shown.now ≡ locations
AreLocations locations other = ⊥

-- an argument of that field or directive may have been meant
abbrev pub IsArgumentHelp : Schema → SchemaCoordinate → NameText → Help → Type 0
IsArgumentHelp schema (coordinates.TypeAttribute field) name h = IsDidYouMean (argument_names schema field.ty field.attribute) name h
IsArgumentHelp schema (coordinates.Directive d) name h = IsDidYouMean (directive_argument_names schema d.directive) name h
IsArgumentHelp schema other name h = ⊥

-- a value of the type `ty` may be of the type t, which has the field
pub record HasFieldFor (schema : Schema) (ty field t : NameText) : Type 0 where
  pub is_one : IsSubtype schema ty t
  pub definition : Component FieldDefinition
  pub has : type_field schema t field ≡ Ok definition

-- types of an abstract type have the field; or another field may have been meant
abbrev pub IsFieldHelp : Schema → NameText → NameText → Help → Type 0
IsFieldHelp schema ty field (help.OnTypes f types) = (f.now ≡ field) × (types.items ≢ []) × All (HasFieldFor schema ty field) types.items
IsFieldHelp schema ty field other = IsDidYouMean (field_names schema ty) field other

-- names that are defined there may have been meant; a built-in scalar is to be left out
abbrev pub HelpsWithBuilding : Schema → BuildingRule → Help → Type 0
HelpsWithBuilding schema (rule.UndefinedField ty field) h = IsFieldHelp schema ty field h
HelpsWithBuilding schema (rule.UndefinedTypeInNamedFragmentTypeCondition ty fragment) h = IsDidYouMean (type_names schema) ty h
HelpsWithBuilding schema (rule.UndefinedTypeInInlineFragmentTypeCondition ty) h = IsDidYouMean (type_names schema) ty h
HelpsWithBuilding schema rule.BuiltInScalarTypeRedefinition h = h ≡ help.LeaveOut
HelpsWithBuilding schema other h = ⊥

-- names that are defined there may have been meant; a field of a composite type needs selections; a directive has these locations
abbrev pub HelpsWithDiagnostic : Schema → DiagnosticData → Help → Type 0
HelpsWithDiagnostic schema (broken.UndefinedArgument name coordinate definition) h = IsArgumentHelp schema coordinate name h
HelpsWithDiagnostic schema (broken.UndefinedDefinition name) h = IsDidYouMean (type_names schema) name h
HelpsWithDiagnostic schema (broken.UndefinedDirective name) h = IsDidYouMean (directive_names schema) name h
HelpsWithDiagnostic schema (broken.UndefinedEnumValue value ty definition) h = IsDidYouMean (enum_value_names schema ty) value h
HelpsWithDiagnostic schema (broken.UndefinedInputValue value ty definition) h = IsDidYouMean (input_field_names schema ty) value h
HelpsWithDiagnostic schema (broken.MissingSubselection coordinate ty describe) h = IsSelect coordinate.attribute ty h
HelpsWithDiagnostic schema (broken.UnsupportedLocation name location valid definition) h = AreLocations valid.items h
HelpsWithDiagnostic schema other h = ⊥

abbrev pub HelpsWithDetails : Schema → Details → Help → Type 0
HelpsWithDetails schema (details.Diagnostic diagnostic) h = HelpsWithDiagnostic schema diagnostic h
HelpsWithDetails schema other h = ⊥
