-- The steps of the checks of root operation types, for the contracts of their private functions.
use Rattle.std.specs.Prelude.{◌≡◌, ℕ, All, List, None, Option, find, map}
use Rattle.std.specs.Borrow.{Bor}
use Rattle.graphql_specification.specs.InputValueDefinitions.{IsOfOtherKind}
use Rattle.graphql_nodes.specs.Names.{AreDistinct, NameText, same_name}
use Rattle.graphql_documents.specs.Schemas.{NamesKind, is_object_type, type_definition}
use Rattle.graphql_diagnostics.specs.declared.data.DiagnosticData.TheVariants as report
use Rattle.graphql_diagnostics.specs.declared.data.DiagnosticData.{DiagnosticData}
use Rattle.graphql_documents.specs.declared.documents.components.ComponentName.{ComponentName}
use Rattle.graphql_nodes.specs.declared.operation_types.OperationType.{OperationType}
use Rattle.graphql_documents.specs.declared.documents.schemas.Schema.{Schema}
use Rattle.graphql_nodes.specs.declared.spans.SourceSpan.{SourceSpan}

-- a root that is lent
abbrev pub lent_root : OperationType × Bor ComponentName → OperationType × ComponentName
lent_root root = (root.0, root.1.now)

-- the first of the roots that has the name
abbrev pub root_named : NameText → List (OperationType × ComponentName) → Option (OperationType × ComponentName)
root_named name roots = find (λ root. same_name root.1.name name) roots

-- the root types are objects, and no type is among them twice
abbrev pub AreRoots : Schema → List (OperationType × ComponentName) → Type 0
AreRoots schema roots = All (λ root. NamesKind schema is_object_type root.1.name) roots × AreDistinct (map (λ root. root.1.name) roots)

-- a root is an object, and none of these
abbrev pub FollowsWell : Schema → List (OperationType × ComponentName) → OperationType × ComponentName → Type 0
FollowsWell schema before root = NamesKind schema is_object_type root.1.name × (root_named root.1.name before ≡ None)

-- the diagnostic names what is wrong with the type of a root
pub data RootReport (schema : Schema) (name : NameText) : DiagnosticData → Option SourceSpan → Type 0 where
  of_undefined_root : {reported : NameText} {at : Option SourceSpan} →
      type_definition schema name ≡ None → reported ≡ name → at ≡ name.location → RootReport schema name (report.UndefinedDefinition reported) at
  of_no_object : {reported : NameText} {describe : Bor (List ℕ)} {at : Option SourceSpan} →
      IsOfOtherKind schema is_object_type name describe.now → reported ≡ name → at ≡ name.location →
      RootReport schema name (report.RootOperationObjectType reported describe) at
