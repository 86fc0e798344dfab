-- When a schema definition holds, with its root types, and what a diagnostic says of it. Specification: 3.3 Schema.
use Rattle.std.specs.Prelude.{All, map, IsSome, ◌≡◌, List, ◌∷◌, ◌++◌, Option, Some, find, ℕ, None, Contains, []}
use Rattle.std.specs.Borrow.{Bor}
use Rattle.graphql_nodes.specs.Names.{AreDistinct, NameText, same_name}
use Rattle.graphql_documents.specs.Schemas.{NamesKind, is_object_type, roots_of, type_definition}
use Rattle.graphql_specification.specs.InputValueDefinitions.{IsOfOtherKind, DirectivesHoldAt}
use Rattle.graphql_specification.specs.Directives.{DirectivesReport}
use Rattle.graphql_documents.specs.declared.documents.schemas.SchemaDefinition.{SchemaDefinition}
use Rattle.graphql_documents.specs.declared.documents.schemas.Schema.{Schema}
use Rattle.graphql_documents.specs.declared.documents.components.ComponentName.{ComponentName}
use Rattle.graphql_nodes.specs.declared.operation_types.OperationType.{OperationType}
use Rattle.graphql_nodes.specs.declared.spans.SourceSpan.{SourceSpan}
use Rattle.graphql_diagnostics.specs.declared.data.DiagnosticData.{DiagnosticData}
use Rattle.graphql_nodes.specs.declared.nodes.Node.{Node}
use Rattle.graphql_nodes.specs.declared.directive_locations.DirectiveLocation.TheVariants as allowed_at
use Rattle.graphql_diagnostics.specs.declared.data.DiagnosticData.TheVariants as report

-- the root types are objects, and no type serves as two. Specification: 3.3.1 Root Operation Types
pub record RootsHold (schema : Schema) (d : SchemaDefinition) : Type 0 where
  pub objects : All (λ root. NamesKind schema is_object_type root.1.name) (roots_of d)
  pub distinct : AreDistinct (map (λ root. root.1.name) (roots_of d))

-- the schema definition holds. Specification: 3.3 Schema
pub record SchemaDefinitionHolds (schema : Schema) (d : SchemaDefinition) : Type 0 where
  pub has_query : IsSome d.query
  pub roots : RootsHold schema d
  pub directives : DirectivesHoldAt schema allowed_at.Schema (map (λ c. c.node) d.directives.items)

-- two operations have one root type: reported at the later name, with the first of the name
pub record RepeatsRoot (d : SchemaDefinition) (name : NameText) (original_operation : OperationType) (original : Option SourceSpan) (redefined_operation : OperationType) (redefined at : Option SourceSpan) : Type 0 where
  pub before : List (OperationType × ComponentName)
  pub first : OperationType × ComponentName
  pub again : OperationType × ComponentName
  pub after : List (OperationType × ComponentName)
  pub split : roots_of d ≡ before ++ again ∷ after
  pub first_is : find (λ root. same_name root.1.name again.1.name) before ≡ Some first
  pub name_is : name ≡ again.1.name
  pub original_operation_is : original_operation ≡ first.0
  pub original_is : original ≡ first.1.name.location
  pub redefined_operation_is : redefined_operation ≡ again.0
  pub redefined_is : redefined ≡ again.1.name.location
  pub at_is : at ≡ again.1.name.location

-- the diagnostic names what is wrong with the root types that a schema definition names
pub data RootsReport (schema : Schema) (d : SchemaDefinition) : DiagnosticData → Option SourceSpan → Type 0 where
  root_is_undefined : {root : OperationType × ComponentName} {at : Option SourceSpan} →
      Contains (roots_of d) root → type_definition schema root.1.name ≡ None →
      at ≡ root.1.name.location → RootsReport schema d (report.UndefinedDefinition root.1.name) at
  root_is_no_object : {root : OperationType × ComponentName} {describe : Bor (List ℕ)} {at : Option SourceSpan} →
      Contains (roots_of d) root → IsOfOtherKind schema is_object_type root.1.name describe.now →
      at ≡ root.1.name.location → RootsReport schema d (report.RootOperationObjectType root.1.name describe) at
  root_is_repeated : {name : NameText} {original_operation redefined_operation : OperationType} {original redefined at : Option SourceSpan} →
      RepeatsRoot d name original_operation original redefined_operation redefined at →
      RootsReport schema d (report.DuplicateRootOperationType name original_operation original redefined_operation redefined) at

-- the diagnostic names what is wrong with a schema definition
pub data SchemaDefinitionReport (schema : Schema) (d : Node SchemaDefinition) : DiagnosticData → Option SourceSpan → Type 0 where
  no_query_root : {at : Option SourceSpan} →
      d.value.value.query ≡ None → at ≡ d.location → SchemaDefinitionReport schema d report.QueryRootOperationType at
  of_roots : {r : DiagnosticData} {at : Option SourceSpan} → RootsReport schema d.value.value r at → SchemaDefinitionReport schema d r at
  schema_directives : {r : DiagnosticData} {at : Option SourceSpan} →
      DirectivesReport (Some schema) [] allowed_at.Schema (map (λ c. c.node) d.value.value.directives.items) r at →
      SchemaDefinitionReport schema d r at
