-- When the trees of texts make a schema: the rules that ask nothing but the texts. Specification: 3 Type System.
use Rattle.std.specs.Prelude.{◌≡◌, ℕ, ◌≤◌, Bool, true, false, ◌&&◌, ◌||◌, not, List, [], ◌∷◌, ◌++◌, Option, None, Some, All, IsTrue, IsFalse, codes, filter, find, flat_map, length, map, is_some}
use Rattle.std.specs.List.{cons_option}
use Rattle.std.specs.Option.{option_map}
use Rattle.std.specs.Str.{bytes_eq}
use Rattle.graphql_nodes.specs.Names.{AreDistinct, NameText}
use Rattle.graphql_nodes.specs.declared.operation_types.OperationType.{OperationType}
use Rattle.graphql_nodes.specs.declared.operation_types.OperationType.TheVariants.{Query, Mutation, Subscription}
use Rattle.graphql_trees.specs.declared.documents.Definition.{Definition}
use Rattle.graphql_trees.specs.declared.documents.Document.{Document}
use Rattle.graphql_trees.specs.declared.type_system.RootOperationTypeDefinition.{RootOperationTypeDefinition}
use Rattle.graphql_trees.specs.declared.type_system.SchemaDefinition.{SchemaDefinition}
use Rattle.graphql_trees.specs.declared.type_system.TypeDefinition.{TypeDefinition}
use Rattle.graphql_schema_checking.specs.Definitions.{built_in_directive_names, definitions_in, executables, interface_names, is_built_in_name, is_interface, kind_of, member_names, name_of, own_directive_names, parts_of, redefines_scalar, same_kind, schema_extensions, schemas, type_extensions, type_named, types}

-- Specification: 3.3.1 Root Operation Types, Default Root Operation Type Names
abbrev pub default_root_name : OperationType → List ℕ
default_root_name Query = codes "Query"
default_root_name Mutation = codes "Mutation"
default_root_name Subscription = codes "Subscription"

-- a type of the default name of the root of a kind of operations
abbrev pub is_default_root : OperationType → TypeDefinition → Bool
is_default_root operation d = bytes_eq (name_of d).text (default_root_name operation)

-- the first of them, if there is one
abbrev pub default_root : List TypeDefinition → OperationType → Option TypeDefinition
default_root types operation = find (is_default_root operation) types

abbrev pub default_roots : OperationType → List TypeDefinition → List NameText
default_roots operation types = cons_option (option_map name_of (default_root types operation)) []

-- the same kind of operations
abbrev pub same_operation : OperationType → OperationType → Bool
same_operation Query Query = true
same_operation Mutation Mutation = true
same_operation Subscription Subscription = true
same_operation _ _ = false

-- the types that these name as the root of a kind of operations
abbrev pub roots_of_kind : OperationType → List RootOperationTypeDefinition → List NameText
roots_of_kind operation roots = map (λ root. root.name) (filter (λ root. same_operation root.operation_type operation) roots)

-- the same of definitions or extensions of the schema
abbrev pub named_roots : OperationType → List SchemaDefinition → List NameText
named_roots operation parts = flat_map (λ part. roots_of_kind operation part.root_operations) parts

-- the roots of the definition of the schema; without one, the type of the default name
abbrev pub first_roots : OperationType → List TypeDefinition → List SchemaDefinition → List NameText
first_roots operation types [] = default_roots operation types
first_roots operation types (d ∷ ds) = named_roots operation (d ∷ ds)

-- the types that are named as the root of a kind of operations: these, and those of extensions
abbrev pub roots : List Definition → OperationType → List NameText
roots definitions operation =
    first_roots operation (types definitions) (schemas definitions) ++ named_roots operation (schema_extensions definitions)

abbrev pub is_nil : {T : Type 0} → List T → Bool
is_nil [] = true
is_nil (x ∷ xs) = false

-- there is a schema to extend: it is defined, or a type has the default name of a root
abbrev pub has_schema : List Definition → Bool
has_schema definitions =
    not (is_nil (schemas definitions)) || is_some (default_root (types definitions) Query) || is_some (default_root (types definitions) Mutation) ||
    is_some (default_root (types definitions) Subscription)

-- an extension is of a type that a text defines, and of its kind. Specification: 3.4.3 Type Extensions
abbrev pub IsOfKind : Option TypeDefinition → TypeDefinition → Type 0
IsOfKind None e = ⊥
IsOfKind (Some d) e = IsFalse (is_built_in_name (name_of d)) × IsTrue (same_kind (kind_of d) (kind_of e))

-- the names of what types implement, by their definitions, then by their extensions. Specification: 3.6 Objects, 3.7 Interfaces
abbrev pub implemented_names : List Definition → List NameText
implemented_names definitions = flat_map interface_names (types definitions) ++ flat_map interface_names (type_extensions definitions)

-- if the type is defined, it is an interface
abbrev pub IsNoOtherThanInterface : Option TypeDefinition → Type 0
IsNoOtherThanInterface None = Unit {0}
IsNoOtherThanInterface (Some d) = IsTrue (is_interface d)

-- the names of the fields of a type, of its members or of its values, over all its parts
abbrev pub all_member_names : List Definition → TypeDefinition → List NameText
all_member_names definitions d = flat_map member_names (parts_of definitions d)

-- the interfaces that a type implements, over all its parts
abbrev pub all_interface_names : List Definition → TypeDefinition → List NameText
all_interface_names definitions d = flat_map interface_names (parts_of definitions d)

-- nothing of a type is there twice
pub record HasDistinctParts (definitions : List Definition) (d : TypeDefinition) : Type 0 where
  -- fields, 3.6 Objects, 3.7 Interfaces, 3.10 Input Objects; members, 3.8 Unions; values, 3.9 Enums
  pub members : AreDistinct (all_member_names definitions d)
  -- 3.6 Objects, 3.7 Interfaces
  pub interfaces : AreDistinct (all_interface_names definitions d)

-- the definitions make a schema
pub record DefinitionsBuild (definitions : List Definition) : Type 0 where
  -- 3 Type System: nothing that is executed
  pub no_executables : executables definitions ≡ []
  -- 3.3 Schema: one definition of it
  pub one_schema : length (schemas definitions) ≤ 1
  -- 3.3.1 Root Operation Types: one of each kind
  pub one_query : length (roots definitions Query) ≤ 1
  pub one_mutation : length (roots definitions Mutation) ≤ 1
  pub one_subscription : length (roots definitions Subscription) ≤ 1
  -- 3.5 Scalars: those that are built in are not defined
  pub own_scalars : All (λ d. IsFalse (redefines_scalar d)) (types definitions)
  -- 3.3 Schema: all types have different names
  pub unique_types : AreDistinct (map name_of (types definitions))
  -- 3.3 Schema: all directives have different names; but a text may define again one that is built in
  pub unique_directives : AreDistinct (own_directive_names definitions)
  pub unique_built_in_directives : AreDistinct (built_in_directive_names definitions)
  -- 3.4.3 Type Extensions
  pub extensions_extend : All (λ e. IsOfKind (type_named (types definitions) (name_of e)) e) (type_extensions definitions)
  -- 3.6 Objects, 3.7 Interfaces: what is implemented is an interface, if it is defined
  pub implemented_are_interfaces : All (λ name. IsNoOtherThanInterface (type_named (types definitions) name)) (implemented_names definitions)
  -- 3.3.2 Schema Extension
  pub schema_is_there : All (λ e. IsTrue (has_schema definitions)) (schema_extensions definitions)
  -- 3.6 to 3.10
  pub distinct_parts : All (HasDistinctParts definitions) (types definitions)

-- the texts with these trees make a schema
abbrev pub SchemaBuilds : List Document → Type 0
SchemaBuilds trees = DefinitionsBuild (definitions_in trees)
