-- When a document can be built, against a schema or without one, and selections on their types. Specification: 5.3.1 Field
-- Selections, 5.3.3 Leaf Field Selections, 5.5.1.2 Fragment Spread Type Existence, 5.5.1.3 Fragments On Composite Types.
use Rattle.std.specs.Prelude.{◌≡◌, IsTrue, List, [], ◌∷◌, Option, None, Some, Ok, All, map}
use Rattle.graphql_nodes.specs.Names.{AreDistinct, NameText}
use Rattle.graphql_documents.specs.Schemas.{type_field}
use Rattle.graphql_documents.specs.declared.documents.components.Component.{Component}
use Rattle.graphql_documents.specs.declared.documents.definitions.FieldDefinition.{FieldDefinition}
use Rattle.graphql_documents.specs.declared.documents.schemas.Schema.{Schema}
use Rattle.graphql_trees.specs.declared.executable.Field.{Field, out-Field}
use Rattle.graphql_trees.specs.declared.executable.InlineFragment.{InlineFragment}
use Rattle.graphql_trees.specs.declared.executable.Selection.{Selection}
use Rattle.graphql_trees.specs.declared.executable.Selection.TheVariants as tree
use Rattle.graphql_trees.specs.declared.documents.Definition.{Definition}
use Rattle.graphql_trees.specs.declared.documents.Definition.TheVariants as definition
use Rattle.graphql_trees.specs.declared.documents.Document.{Document}
use Rattle.graphql_trees.specs.declared.executable.OperationDefinition.{OperationDefinition}
use Rattle.graphql_trees.specs.declared.executable.FragmentDefinition.{FragmentDefinition}
use Rattle.graphql_document_building.specs.Trees.{StandsOn, anonymous_operations_in, fragments_in, is_type_composite, named_operations_in, operations_in, root_name, is_condition_composite, names_leaf_type, type_below}

-- the type has the field, and this selects nothing from a scalar or an enum
pub record FieldBuilds (schema : Schema) (here : NameText) (f : Field) : Type 0 where
  pub definition : Component FieldDefinition
  pub defined : type_field schema here (out-Field f).name ≡ Ok definition
  pub leaf : IsTrue (names_leaf_type schema (type_below definition)) → (out-Field f).selection_set ≡ None

-- these selections on the type, and all that are below them, can be built
pub record SelectionsBuild (schema : Schema) (parent : NameText) (trees : List Selection) : Type 0 where
  pub fields : (f : Field) (here : NameText) → StandsOn schema parent trees (tree.Field f) here → FieldBuilds schema here f
  pub inline_fragments : (i : InlineFragment) (here : NameText) → StandsOn schema parent trees (tree.InlineFragment i) here →
      IsTrue (is_condition_composite schema i.type_condition)

-- so can one selection
abbrev pub SelectionBuilds : Schema → NameText → Selection → Type 0
SelectionBuilds schema parent s = SelectionsBuild schema parent (s ∷ [])

-- these selections on the type can be built; without a schema all can
abbrev pub SelectionsBuildIn : Option Schema → NameText → List Selection → Type 0
SelectionsBuildIn (Some schema) parent trees = SelectionsBuild schema parent trees
SelectionsBuildIn None parent trees = Unit {0}

-- the schema has a root type for the operation, on which its selections can be built. Specification: 3.3.1 Root
-- Operation Types
pub record OperationBuilds (schema : Schema) (x : OperationDefinition) : Type 0 where
  pub root : NameText
  pub defined : root_name schema x.operation_type ≡ Some root
  pub selections : SelectionsBuild schema root x.selection_set.selections

-- the type condition of the fragment is a composite type, on which its selections can be built. Specification: 5.5.1.2
-- Fragment Spread Type Existence, 5.5.1.3 Fragments On Composite Types
pub record FragmentBuilds (schema : Schema) (x : FragmentDefinition) : Type 0 where
  pub composite : IsTrue (is_type_composite schema x.type_condition)
  pub selections : SelectionsBuild schema x.type_condition x.selection_set.selections

-- the definition is an operation or a fragment that can be built; without a schema each can. Specification: 5.1.1
-- Executable Definitions
abbrev pub DefinitionBuilds : Option Schema → Definition → Type 0
DefinitionBuilds (Some schema) (definition.Operation x) = OperationBuilds schema x
DefinitionBuilds (Some schema) (definition.Fragment x) = FragmentBuilds schema x
DefinitionBuilds None (definition.Operation x) = Unit {0}
DefinitionBuilds None (definition.Fragment x) = Unit {0}
DefinitionBuilds schema _ = ⊥

-- an operation without a name is the only operation. Specification: 5.2.2.1 Lone Anonymous Operation
abbrev pub AnonymousOperationIsAlone : List Definition → Type 0
AnonymousOperationIsAlone definitions = All (λ x. operations_in definitions ≡ x ∷ []) (anonymous_operations_in definitions)

-- the document can be built: each of its definitions can, and names are unique. Specification: 5.2.1.1 Operation Name
-- Uniqueness, 5.5.1.1 Fragment Name Uniqueness
pub record DocumentBuilds (schema : Option Schema) (x : Document) : Type 0 where
  pub definitions : All (DefinitionBuilds schema) x.definitions
  pub anonymous_operation : AnonymousOperationIsAlone x.definitions
  pub operation_names : AreDistinct (map (λ p. p.0) (named_operations_in x.definitions))
  pub fragment_names : AreDistinct (map (λ p. p.0) (fragments_in x.definitions))
