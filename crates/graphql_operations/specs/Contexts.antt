-- What the checks of an operation share, as contracts see it, and the type against which they check.
use Rattle.std.specs.Prelude.{◌≡◌, List, Option, None, Some, ⊤, map, option_map}
use Rattle.std.specs.Borrow.{Bor}
use Rattle.std.specs.Option.{option_copied}
use Rattle.graphql_nodes.specs.Names.{NameText}
use Rattle.graphql_documents.specs.declared.documents.definitions.VariableDefinition.{VariableDefinition}
use Rattle.graphql_nodes.specs.declared.nodes.Node.{Node}
use Rattle.graphql_documents.specs.declared.documents.schemas.Schema.{Schema}
use Rattle.graphql_operations.specs.declared.context.OperationValidationContext.{OperationValidationContext}

-- the schema, if there is one
abbrev pub schema_of : OperationValidationContext → Option Schema
schema_of context = option_copied context.schema

-- the variables
abbrev pub variables_of : OperationValidationContext → List (Node VariableDefinition)
variables_of context = context.variables

-- the names of the fragments that were visited
abbrev pub visited_fragment_names : OperationValidationContext → List NameText
visited_fragment_names context = map (λ name. name.now) context.visited_fragments.keys

-- the type against which selections are checked, if it is known
abbrev pub parent_of : Option (Bor Schema × Bor NameText) → Option NameText
parent_of against = option_map (λ pair. pair.1.now) against

-- a type against which something is checked is given with this schema
abbrev pub IsAgainst : Option Schema → Option (Bor Schema × Bor NameText) → Type 0
IsAgainst schema None = ⊤
IsAgainst schema (Some pair) = schema ≡ Some pair.0.now

-- the schema and the variables stay
pub record SharesWith (old new : OperationValidationContext) : Type 0 where
  pub schema : schema_of new ≡ schema_of old
  pub variables : variables_of new ≡ variables_of old

-- and so do the fragments that were visited
pub record StaysAsItWas (old new : OperationValidationContext) : Type 0 where
  pub schema : schema_of new ≡ schema_of old
  pub variables : variables_of new ≡ variables_of old
  pub visited_fragments : visited_fragment_names new ≡ visited_fragment_names old
