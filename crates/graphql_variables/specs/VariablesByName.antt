-- Variables that are found by their names.
use Rattle.std.specs.Prelude.{◌≡◌, List}
use Rattle.std.specs.Borrow.{Bor}
use Rattle.std.specs.HashMap.{HashMap, get_by}
use Rattle.std.specs.Option.{option_copied}
use Rattle.graphql_nodes.specs.Names.{NameText, same_name}
use Rattle.graphql_documents.specs.Definitions.{variable_named}
use Rattle.graphql_documents.specs.declared.documents.definitions.VariableDefinition.{VariableDefinition}
use Rattle.graphql_nodes.specs.declared.nodes.Node.{Node}

-- the map has for each name the first variable that has it
pub record FindsFirst {S : Type 0} (first : HashMap (Bor NameText) (Bor (Node VariableDefinition)) S) (definitions : List (Node VariableDefinition)) : Type 0 where
  pub look_up : (name : NameText) → option_copied (get_by (λ b. same_name name b.now) first) ≡ variable_named name definitions
