use Rattle.std.proofs.Common.{take}
use Rattle.graphql_nodes.specs.declared.nodes.Node.{Node}
use Rattle.graphql_documents.specs.declared.documents.definitions.VariableDefinition.{VariableDefinition}
use Rattle.graphql_input_rules.specs.ValuesWritten.{VariableWrites}
use Rattle.graphql_input_rules.proofs.PlaceLemmas.{WalkedTo}
use Rattle.graphql_input_rules.proofs.input_fields.check_variables.Given as goal

abbrev pub invariant-loop-variable : goal.invariant-loop-variable
invariant-loop-variable l =
    WalkedTo (λ (x : Node VariableDefinition). VariableWrites x.value.value) l.variables (take l.variable-index l.variables)
    l.initial.reports.kept.items l.reports.kept.items
