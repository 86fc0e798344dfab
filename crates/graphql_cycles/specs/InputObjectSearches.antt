-- Searches for cycles of input objects, for the contracts of private functions.
use Rattle.std.specs.Prelude.{List, Contains, IsSome, Result}
use Rattle.std.specs.Borrow.{Bor}
use Rattle.graphql_nodes.specs.Names.{NameText}
use Rattle.graphql_specification.specs.InputObjectCycles.{RequiresBy, input_object_of}
use Rattle.graphql_documents.specs.TypeReferences.{inner_named_type}
use Rattle.graphql_documents.specs.declared.documents.definitions.InputValueDefinition.{InputValueDefinition}
use Rattle.graphql_nodes.specs.declared.nodes.Node.{Node}
use Rattle.graphql_documents.specs.declared.documents.schemas.Schema.{Schema}
use Rattle.graphql_guards.specs.Guards.{path_limit, path_of}
use Rattle.graphql_guards.specs.declared.recursion.CycleError.{CycleError}
use Rattle.graphql_guards.specs.declared.recursion.RecursionStack.{RecursionStack}
use Rattle.graphql_cycles.specs.CycleSearches.{Searches, StandsOn}
use Rattle.graphql_cycles.specs.declared.input_objects.InputObjectSearch.{InputObjectSearch}

-- one of these fields, that must hold an input object
abbrev pub RequiresAmong : Schema → List (Node InputValueDefinition) → Node InputValueDefinition → Type 0
RequiresAmong schema fields field = Contains fields field × IsSome (input_object_of schema field)

-- a search begins with a path that holds the names that it should
abbrev pub BeginsAt : InputObjectSearch → RecursionStack → List (Bor NameText) → Type 0
BeginsAt search path seen = StandsOn search.root.now (path_of path) (path_limit path) seen

-- what a search that began with these fields has done
abbrev pub SearchesFor : {X : Type 0} → InputObjectSearch → List (Node InputValueDefinition) → RecursionStack →
    (old new : List (Bor NameText)) → Result X (CycleError InputValueDefinition) → Type 0
SearchesFor search fields path old new result =
    Searches (RequiresBy search.schema.now) (input_object_of search.schema.now) (λ field. inner_named_type field.value.value.ty.value.value)
    search.root.now (RequiresAmong search.schema.now fields) (path_of path) (path_limit path) old new result
