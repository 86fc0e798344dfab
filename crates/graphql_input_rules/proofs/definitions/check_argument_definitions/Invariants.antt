use Rattle.std.proofs.Common.{take}
use Rattle.graphql_nodes.specs.declared.nodes.Node.{Node}
use Rattle.graphql_documents.specs.declared.documents.definitions.InputValueDefinition.{InputValueDefinition}
use Rattle.graphql_input_rules.specs.SchemaValues.{InputValueWrites}
use Rattle.graphql_input_rules.proofs.PlaceLemmas.{WalkedTo}
use Rattle.graphql_input_rules.proofs.definitions.check_argument_definitions.Given as goal

abbrev pub invariant-loop-argument : goal.invariant-loop-argument
invariant-loop-argument l =
    WalkedTo (λ (a : Node InputValueDefinition). InputValueWrites a.value.value) l.arguments (take l.argument-index l.arguments)
    l.initial.reports.kept.items l.reports.kept.items
