-- What a report says of a definition that cannot be built. Specification: 3.3.1 Root Operation Types, 5.1.1 Executable
-- Definitions, 5.5.1.2 Fragment Spread Type Existence, 5.5.1.3 Fragments On Composite Types.
use Rattle.std.specs.Prelude.{◌≡◌, ◌⊎◌, IsFalse, IsTrue, List, Contains, Option, None, Some}
use Rattle.graphql_nodes.specs.Names.{NameText}
use Rattle.graphql_nodes.specs.declared.spans.SourceSpan.{SourceSpan}
use Rattle.graphql_documents.specs.Schemas.{is_composite, type_definition}
use Rattle.graphql_documents.specs.declared.documents.schemas.ExtendedType.{ExtendedType}
use Rattle.graphql_documents.specs.declared.documents.schemas.Schema.{Schema}
use Rattle.graphql_trees.specs.declared.documents.Definition.{Definition}
use Rattle.graphql_trees.specs.declared.documents.Definition.TheVariants as definition
use Rattle.graphql_trees.specs.declared.executable.FragmentDefinition.{FragmentDefinition}
use Rattle.graphql_trees.specs.declared.executable.OperationDefinition.{OperationDefinition}
use Rattle.graphql_trees.specs.declared.type_system.TypeDefinition.{TypeDefinition}
use Rattle.graphql_trees.specs.declared.type_system.TypeDefinition.TheVariants as type_tree
use Rattle.graphql_document_building.specs.Trees.{is_type_composite, root_name}
use Rattle.graphql_document_checking.specs.Reports.{IsSelectionReport}
use Rattle.graphql_building_reports.specs.declared.lists.BuildingReport.{BuildingReport}
use Rattle.graphql_building_reports.specs.declared.rules.BuildingRule.TheVariants as rule

-- where the definition of a type is
abbrev pub type_definition_span : TypeDefinition → SourceSpan
type_definition_span (type_tree.Scalar x) = x.span
type_definition_span (type_tree.Object x) = x.span
type_definition_span (type_tree.Interface x) = x.span
type_definition_span (type_tree.Union x) = x.span
type_definition_span (type_tree.Enum x) = x.span
type_definition_span (type_tree.InputObject x) = x.span

-- where a definition is
abbrev pub definition_span : Definition → SourceSpan
definition_span (definition.Operation x) = x.span
definition_span (definition.Fragment x) = x.span
definition_span (definition.Schema x) = x.span
definition_span (definition.Type x) = type_definition_span x
definition_span (definition.Directive x) = x.span
definition_span (definition.SchemaExtension x) = x.span
definition_span (definition.TypeExtension x) = type_definition_span x

-- the schema has no root type for the operation, reported at the operation; or a selection of it cannot be built on that
abbrev pub IsOperationReport : Schema → OperationDefinition → BuildingReport → Type 0
IsOperationReport schema x r =
    ((root_name schema x.operation_type ≡ None) × (r ≡ record { location = Some x.span; rule = rule.UndefinedRootOperation x.operation_type })) ⊎
    ((root : NameText) × (root_name schema x.operation_type ≡ Some root) × IsSelectionReport schema root x.selection_set.selections r)

-- the type condition of the fragment is not defined, reported at the condition; or it is no composite type, reported at the
-- fragment; or a selection of it cannot be built on that
pub data IsFragmentReport (schema : Schema) (x : FragmentDefinition) : BuildingReport → Type 0 where
  lacks_target : type_definition schema x.type_condition ≡ None →
      IsFragmentReport schema x (record { location = x.type_condition.location; rule = rule.UndefinedTypeInNamedFragmentTypeCondition x.type_condition x.name })
  has_invalid_target : (d : ExtendedType) → type_definition schema x.type_condition ≡ Some d → IsFalse (is_composite d) →
      IsFragmentReport schema x (record { location = Some x.span; rule = rule.InvalidFragmentTarget (Some x.name) })
  of_fragment_selection : {r : BuildingReport} → IsTrue (is_type_composite schema x.type_condition) →
      IsSelectionReport schema x.type_condition x.selection_set.selections r → IsFragmentReport schema x r

-- the operation or the fragment cannot be built, which is reported against a schema alone; or the definition is neither,
-- reported at the definition
abbrev pub IsDefinitionReport : Option Schema → Definition → BuildingReport → Type 0
IsDefinitionReport (Some schema) (definition.Operation x) r = IsOperationReport schema x r
IsDefinitionReport (Some schema) (definition.Fragment x) r = IsFragmentReport schema x r
IsDefinitionReport None (definition.Operation x) r = ⊥
IsDefinitionReport None (definition.Fragment x) r = ⊥
IsDefinitionReport schema d r = r ≡ record { location = Some (definition_span d); rule = rule.TypeSystemDefinition }

-- one of these definitions cannot be built
abbrev pub IsReportOfDefinitions : Option Schema → List Definition → BuildingReport → Type 0
IsReportOfDefinitions schema definitions r = (d : Definition) × Contains definitions d × IsDefinitionReport schema d r
