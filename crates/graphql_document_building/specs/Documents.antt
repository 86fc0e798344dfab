-- What documents say, once they are built against a schema, or without one. Specification: 2.2 Document, 2.3 Operations, 2.8 Fragments.
use Rattle.std.specs.Prelude.{◌≡◌, Option, None, Ok, Some, codes, option_to_list}
use Rattle.std.specs.List.{AllZip}
use Rattle.indexmap.specs.IndexMap.{hasher_of}
use Rattle.graphql_nodes.specs.Names.{NameText}
use Rattle.graphql_nodes.specs.declared.nodes.Node.{Node}
use Rattle.graphql_documents.specs.Schemas.{NamesKind, is_output_type, type_field}
use Rattle.graphql_documents.specs.declared.documents.components.Component.{Component}
use Rattle.graphql_documents.specs.declared.documents.definitions.FieldDefinition.{FieldDefinition}
use Rattle.graphql_documents.specs.declared.documents.executables.ExecutableDocument.{ExecutableDocument}
use Rattle.graphql_documents.specs.declared.documents.executables.Fragment.{Fragment}
use Rattle.graphql_documents.specs.declared.documents.executables.Operation.{Operation}
use Rattle.graphql_documents.specs.declared.documents.schemas.Schema.{Schema}
use Rattle.graphql_nodes.specs.declared.operation_types.OperationType.{OperationType}
use Rattle.graphql_nodes.specs.declared.operation_types.OperationType.TheVariants.{Query, Mutation, Subscription}
use Rattle.graphql_hash_seeds.specs.declared.seeds.HashSeed.{HashSeed}
use Rattle.graphql_trees.specs.declared.documents.Document.{Document}
use Rattle.graphql_trees.specs.declared.executable.FragmentDefinition.{FragmentDefinition}
use Rattle.graphql_trees.specs.declared.executable.OperationDefinition.{OperationDefinition}
use Rattle.graphql_leaf_building.specs.Definitions.{VariablesSay}
use Rattle.graphql_leaf_building.specs.Directives.{DirectivesSay}
use Rattle.graphql_document_building.specs.Selections.{SelectionsSay}
use Rattle.graphql_document_building.specs.Trees.{anonymous_operations_in, fragments_in, named_operations_in, root_name, type_below}

-- the default name of the root type of a kind of operation. Specification: 3.3.1 Root Operation Types, Default Root
-- Operation Type Names
abbrev pub default_root_name : OperationType → NameText
default_root_name Query = record { text = codes "Query"; location = None }
default_root_name Mutation = record { text = codes "Mutation"; location = None }
default_root_name Subscription = record { text = codes "Subscription"; location = None }

-- the type of the root of the operations of a kind; without a schema it has its default name
abbrev pub IsRoot : Option Schema → OperationType → NameText → Type 0
IsRoot (Some schema) kind root = root_name schema kind ≡ Some root
IsRoot None kind root = root ≡ default_root_name kind

-- the tree says this operation: its set is on the root type of its kind
pub record OperationSays (schema : Option Schema) (x : OperationDefinition) (o : Node Operation) : Type 0 where
  pub operation_type : o.value.value.operation_type ≡ x.operation_type
  pub name : o.value.value.name ≡ x.name
  pub variables : VariablesSay x.variables o.value.value.variables.items
  pub directives : DirectivesSay x.directives o.value.value.directives.items
  pub root : IsRoot schema x.operation_type o.value.value.selection_set.ty
  pub selections : SelectionsSay schema o.value.value.selection_set.ty x.selection_set.selections o.value.value.selection_set.selections.items
  pub location : o.location ≡ Some x.span

-- the tree says this fragment: its set is on the type condition
pub record FragmentSays (schema : Option Schema) (x : FragmentDefinition) (d : Node Fragment) : Type 0 where
  pub name : d.value.value.name ≡ x.name
  pub directives : DirectivesSay x.directives d.value.value.directives.items
  pub type_condition : d.value.value.selection_set.ty ≡ x.type_condition
  pub selections : SelectionsSay schema d.value.value.selection_set.ty x.selection_set.selections d.value.value.selection_set.selections.items
  pub location : d.location ≡ Some x.span

-- the tree of this name says what is under it
abbrev pub SaysUnderName : {X Y : Type 0} → (X → Y → Type 0) → NameText × X → NameText × Y → Type 0
SaysUnderName Says x y = (y.0 ≡ x.0) × Says x.1 y.1

-- the tree says this document: its operations without a name, those with one and its fragments, in order, each under its
-- name
pub record DocumentSays (schema : Option Schema) (x : Document) (document : ExecutableDocument) : Type 0 where
  pub anonymous : AllZip (OperationSays schema) (anonymous_operations_in x.definitions) (option_to_list document.operations.anonymous)
  pub named : AllZip (SaysUnderName (OperationSays schema)) (named_operations_in x.definitions) document.operations.named.entries
  pub fragments : AllZip (SaysUnderName (FragmentSays schema)) (fragments_in x.definitions) document.fragments.entries

-- the maps of the document hash names by this seed
abbrev pub HashesBy : HashSeed → ExecutableDocument → Type 0
HashesBy seed document = (hasher_of document.operations.named ≡ seed) × (hasher_of document.fragments ≡ seed)

-- each field that a type has is of an output type. Specification: 3.6 Objects, 3.7 Interfaces
abbrev pub HasOutputFields : Schema → Type 0
HasOutputFields schema =
    (parent field : NameText) (d : Component FieldDefinition) → type_field schema parent field ≡ Ok d → NamesKind schema is_output_type (type_below d)
