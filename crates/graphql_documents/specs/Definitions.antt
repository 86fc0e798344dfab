-- The first definition of a name. Specification: 3.6.1 Field Arguments, 2.10 Variables.
use Rattle.std.specs.Prelude.{List, Option, find}
use Rattle.graphql_nodes.specs.Names.{NameText, same_name}
use Rattle.graphql_nodes.specs.declared.nodes.Node.{Node}
use Rattle.graphql_documents.specs.declared.documents.definitions.InputValueDefinition.{InputValueDefinition}
use Rattle.graphql_documents.specs.declared.documents.definitions.VariableDefinition.{VariableDefinition}

-- the first definition with this name
abbrev pub definition_named : NameText → List (Node InputValueDefinition) → Option (Node InputValueDefinition)
definition_named name definitions = find (λ d. same_name d.value.value.name name) definitions

-- the first variable with this name
abbrev pub variable_named : NameText → List (Node VariableDefinition) → Option (Node VariableDefinition)
variable_named name variables = find (λ v. same_name v.value.value.name name) variables
