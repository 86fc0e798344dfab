-- Fields of objects and interfaces: when they hold, and what a diagnostic says of one. Specification: 3.6 Objects, 3.7 Interfaces.
use Rattle.std.specs.Prelude.{All, ◌≡◌, ℕ, List, Option, [], Some, codes, Contains}
use Rattle.std.specs.Borrow.{Bor}
use Rattle.graphql_nodes.specs.Names.{IsFreeName, NameText}
use Rattle.graphql_documents.specs.TypeReferences.{inner_named_type}
use Rattle.graphql_documents.specs.Schemas.{is_output_type}
use Rattle.graphql_specification.specs.Implementations.{FieldList}
use Rattle.graphql_specification.specs.Directives.{DirectivesReport}
use Rattle.graphql_specification.specs.InputValueDefinitions.{DirectivesHoldAt, ArgumentDefinitionsHold, NamesType, IsOfOtherKind, IsReserved, ArgumentDefinitionsReport, IsUndefinedType}
use Rattle.graphql_documents.specs.declared.documents.definitions.FieldDefinition.{FieldDefinition}
use Rattle.graphql_documents.specs.declared.documents.schemas.Schema.{Schema}
use Rattle.graphql_nodes.specs.declared.nodes.Node.{Node}
use Rattle.graphql_nodes.specs.declared.spans.SourceSpan.{SourceSpan}
use Rattle.graphql_diagnostics.specs.declared.data.DiagnosticData.{DiagnosticData}
use Rattle.graphql_documents.specs.declared.documents.components.Component.{Component}
use Rattle.graphql_nodes.specs.declared.directive_locations.DirectiveLocation.TheVariants as allowed_at
use Rattle.graphql_diagnostics.specs.declared.data.DiagnosticData.TheVariants as report

-- a field holds, its type apart. Specification: 3.6 Objects
pub record FieldDefinitionHolds (schema : Schema) (d : FieldDefinition) : Type 0 where
  pub name : IsFreeName d.name
  pub directives : DirectivesHoldAt schema allowed_at.FieldDefinition d.directives.items
  pub arguments : ArgumentDefinitionsHold schema allowed_at.ArgumentDefinition d.arguments.items

-- the fields of an object or interface hold, each with its type
abbrev pub FieldDefinitionsHold : Schema → FieldList → Type 0
FieldDefinitionsHold schema fields =
    All (λ entry. FieldDefinitionHolds schema entry.1.node.value.value ×
    NamesType schema is_output_type (inner_named_type entry.1.node.value.value.ty)) fields

-- a field is of no output type: reported at the field, with the place of the innermost name
pub record HasNoOutput (schema : Schema) (d : Node FieldDefinition) (name : NameText) (describe : List ℕ) (type_location at : Option SourceSpan) : Type 0 where
  pub kind_is : IsOfOtherKind schema is_output_type (inner_named_type d.value.value.ty) describe
  pub name_is : name ≡ d.value.value.name
  pub type_location_is : type_location ≡ (inner_named_type d.value.value.ty).location
  pub at_is : at ≡ d.location

-- the diagnostic names what is wrong with a field, its type apart
pub data FieldDefinitionReport (schema : Schema) (d : Node FieldDefinition) : DiagnosticData → Option SourceSpan → Type 0 where
  field_name : {describe : Bor (List ℕ)} {name : NameText} {at : Option SourceSpan} →
      IsReserved (codes "a field") d.value.value.name describe.now name at →
      FieldDefinitionReport schema d (report.ReservedName name describe) at
  field_directives : {r : DiagnosticData} {at : Option SourceSpan} →
      DirectivesReport (Some schema) [] allowed_at.FieldDefinition d.value.value.directives.items r at → FieldDefinitionReport schema d r at
  field_arguments : {r : DiagnosticData} {at : Option SourceSpan} →
      ArgumentDefinitionsReport schema allowed_at.ArgumentDefinition d.value.value.arguments.items r at → FieldDefinitionReport schema d r at

-- the diagnostic names what is wrong with the type of a field
pub data FieldTypeReport (schema : Schema) (d : Node FieldDefinition) : DiagnosticData → Option SourceSpan → Type 0 where
  field_type : {describe : Bor (List ℕ)} {name : NameText} {type_location at : Option SourceSpan} →
      HasNoOutput schema d name describe.now type_location at →
      FieldTypeReport schema d (report.OutputType name describe type_location) at
  field_type_undefined : {name : NameText} {at : Option SourceSpan} →
      IsUndefinedType schema (inner_named_type d.value.value.ty) name at →
      FieldTypeReport schema d (report.UndefinedDefinition name) at

-- the diagnostic names what is wrong with one of the fields of an object or interface, or with its type
pub data FieldDefinitionsReport (schema : Schema) (fields : FieldList) : DiagnosticData → Option SourceSpan → Type 0 where
  of_one_field : {entry : NameText × Component FieldDefinition} {r : DiagnosticData} {at : Option SourceSpan} →
      Contains fields entry → FieldDefinitionReport schema entry.1.node r at → FieldDefinitionsReport schema fields r at
  of_type_of_one : {entry : NameText × Component FieldDefinition} {r : DiagnosticData} {at : Option SourceSpan} →
      Contains fields entry → FieldTypeReport schema entry.1.node r at → FieldDefinitionsReport schema fields r at
