-- What a syntax tree holds: its executable definitions by kind, and the types on which its selections are. Specification: 2.2 Document, 2.3
-- Operations, 2.4 Selection Sets, 2.8 Fragments.
use Rattle.std.specs.Prelude.{◌≡◌, Bool, true, false, IsTrue, IsFalse, List, [], Option, None, Some, Ok, Contains, is_none, if◌then◌else◌, unwrap_or}
use Rattle.std.specs.List.{filter_map}
use Rattle.std.specs.Option.{option_map, option_map_or}
use Rattle.graphql_nodes.specs.Names.{NameText}
use Rattle.graphql_documents.specs.Schemas.{is_composite, root_operation, type_definition, type_field}
use Rattle.graphql_documents.specs.TypeReferences.{inner_named_type}
use Rattle.graphql_documents.specs.declared.documents.components.Component.{Component}
use Rattle.graphql_documents.specs.declared.documents.definitions.FieldDefinition.{FieldDefinition}
use Rattle.graphql_documents.specs.declared.documents.schemas.ExtendedType.{ExtendedType}
use Rattle.graphql_documents.specs.declared.documents.schemas.ExtendedType.TheVariants.{Scalar, Enum}
use Rattle.graphql_documents.specs.declared.documents.schemas.Schema.{Schema}
use Rattle.graphql_nodes.specs.declared.operation_types.OperationType.{OperationType}
use Rattle.graphql_trees.specs.declared.documents.Definition.{Definition}
use Rattle.graphql_trees.specs.declared.documents.Definition.TheVariants as definition
use Rattle.graphql_trees.specs.declared.executable.OperationDefinition.{OperationDefinition}
use Rattle.graphql_trees.specs.declared.executable.FragmentDefinition.{FragmentDefinition}
use Rattle.graphql_trees.specs.declared.executable.Field.{Field, out-Field}
use Rattle.graphql_trees.specs.declared.executable.InlineFragment.{InlineFragment}
use Rattle.graphql_trees.specs.declared.executable.Selection.{Selection}
use Rattle.graphql_trees.specs.declared.executable.Selection.TheVariants as tree
use Rattle.graphql_trees.specs.declared.executable.SelectionSet.{SelectionSet}

-- the selections of a set, none where there is no set
abbrev pub selections_in : Option SelectionSet → List Selection
selections_in None = []
selections_in (Some set) = set.selections

-- a scalar or an enum, whose values have no fields to select. Specification: 5.3.3 Leaf Field Selections
abbrev pub is_leaf_type : ExtendedType → Bool
is_leaf_type (Scalar d) = true
is_leaf_type (Enum d) = true
is_leaf_type _ = false

-- the name is that of a scalar or an enum
abbrev pub names_leaf_type : Schema → NameText → Bool
names_leaf_type schema name = option_map_or is_leaf_type (type_definition schema name) false

-- the name is that of a composite type: an object, an interface or a union. Specification: 5.5.1.3 Fragments On Composite Types
abbrev pub is_type_composite : Schema → NameText → Bool
is_type_composite schema name = option_map_or is_composite (type_definition schema name) false

-- the type condition, if there is one, is a composite type
abbrev pub is_condition_composite : Schema → Option NameText → Bool
is_condition_composite schema None = true
is_condition_composite schema (Some condition) = is_type_composite schema condition

-- the type of what a field gives
abbrev pub type_below : Component FieldDefinition → NameText
type_below d = inner_named_type d.node.value.value.ty

-- s is one of these selections, which are on the first type, or is below them, on the second type. Below a field that its type lacks, below a scalar
-- or an enum, and under a condition that is no composite type, nothing has a type
pub data StandsOn (schema : Schema) : NameText → List Selection → Selection → NameText → Type 0 where
  stands_here : {parent : NameText} {trees : List Selection} {s : Selection} →
      Contains trees s → StandsOn schema parent trees s parent
  stands_below_field : {parent here : NameText} {trees : List Selection} {s : Selection} (f : Field) (d : Component FieldDefinition) →
      Contains trees (tree.Field f) →
      type_field schema parent (out-Field f).name ≡ Ok d →
      IsFalse (names_leaf_type schema (type_below d)) →
      StandsOn schema (type_below d) (selections_in (out-Field f).selection_set) s here →
      StandsOn schema parent trees s here
  stands_in_inline_fragment : {parent here : NameText} {trees : List Selection} {s : Selection} (i : InlineFragment) →
      Contains trees (tree.InlineFragment i) →
      IsTrue (is_condition_composite schema i.type_condition) →
      StandsOn schema (unwrap_or i.type_condition parent) i.selection_set.selections s here →
      StandsOn schema parent trees s here

-- the name of the root type of the operations of a kind. Specification: 3.3.1 Root Operation Types
abbrev pub root_name : Schema → OperationType → Option NameText
root_name schema kind = option_map (λ root. root.name) (root_operation schema.schema_definition.value.value kind)

-- the operation that a definition is
abbrev pub as_operation : Definition → Option OperationDefinition
as_operation (definition.Operation x) = Some x
as_operation _ = None

-- the operation without a name that a definition is
abbrev pub as_anonymous_operation : Definition → Option OperationDefinition
as_anonymous_operation (definition.Operation x) = if is_none x.name then Some x else None
as_anonymous_operation _ = None

-- the operation with a name that a definition is, with that name
abbrev pub as_named_operation : Definition → Option (NameText × OperationDefinition)
as_named_operation (definition.Operation x) = option_map (λ name. (name, x)) x.name
as_named_operation _ = None

-- the fragment that a definition is, with its name
abbrev pub as_fragment : Definition → Option (NameText × FragmentDefinition)
as_fragment (definition.Fragment x) = Some (x.name, x)
as_fragment _ = None

-- the operations among definitions, in order; those without a name, and those with one
abbrev pub operations_in : List Definition → List OperationDefinition
operations_in definitions = filter_map as_operation definitions

abbrev pub anonymous_operations_in : List Definition → List OperationDefinition
anonymous_operations_in definitions = filter_map as_anonymous_operation definitions

abbrev pub named_operations_in : List Definition → List (NameText × OperationDefinition)
named_operations_in definitions = filter_map as_named_operation definitions

-- the fragments among definitions, in order
abbrev pub fragments_in : List Definition → List (NameText × FragmentDefinition)
fragments_in definitions = filter_map as_fragment definitions
