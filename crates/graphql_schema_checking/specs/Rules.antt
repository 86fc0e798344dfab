-- The rules of schemas, in the order in which they are checked.
use Rattle.std.specs.Prelude.{◌≤◌, List, All, IsFalse, IsTrue, length}
use Rattle.graphql_nodes.specs.Names.{AreDistinct}
use Rattle.graphql_nodes.specs.declared.operation_types.OperationType.TheVariants.{Query, Mutation, Subscription}
use Rattle.graphql_trees.specs.declared.documents.Definition.{Definition}
use Rattle.graphql_schema_checking.specs.Definitions.{built_in_directive_names, executables, is_executable, name_of, own_directive_names, redefines_scalar, schema_extensions, schemas, type_extensions, type_named, types}
use Rattle.graphql_schema_checking.specs.SchemaBuilds.{HasDistinctParts, IsNoOtherThanInterface, IsOfKind, has_schema, implemented_names, roots}
use Rattle.graphql_schema_checking.specs.SchemaReports.{repeatable_type_names}
use Rattle.graphql_schema_checking.specs.Steps.{first_definitions}

-- nothing can be executed, and there is one schema with one root of each kind
abbrev pub WholeRules : List Definition → Type 0
WholeRules definitions =
    All (λ d. IsFalse (is_executable d)) (executables definitions) ×
    (length (schemas definitions) ≤ 1 ×
    (length (roots definitions Query) ≤ 1 ×
    (length (roots definitions Mutation) ≤ 1 ×
    (length (roots definitions Subscription) ≤ 1 ×
    All (λ e. IsTrue (has_schema definitions)) (schema_extensions definitions)))))

-- the names of types and directives
abbrev pub NameRules : List Definition → Type 0
NameRules definitions =
    All (λ d. IsFalse (redefines_scalar d)) (types definitions) ×
    (AreDistinct (repeatable_type_names (types definitions)) ×
    (AreDistinct (own_directive_names definitions) ×
    AreDistinct (built_in_directive_names definitions)))

-- the extensions of types, what types implement, and what they are made of
abbrev pub TypeRules : List Definition → Type 0
TypeRules definitions =
    All (λ e. IsOfKind (type_named (types definitions) (name_of e)) e) (type_extensions definitions) ×
    (All (λ name. IsNoOtherThanInterface (type_named (types definitions) name)) (implemented_names definitions) ×
    All (HasDistinctParts definitions) (first_definitions (types definitions)))
