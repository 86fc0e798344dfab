use Rattle.std.proofs.Common.{take}
use Rattle.graphql_nodes.specs.declared.nodes.Node.{Node}
use Rattle.graphql_documents.specs.declared.documents.directives.Argument.{Argument}
use Rattle.graphql_input_rules.specs.ValuesWritten.{ValueWritten}
use Rattle.graphql_input_rules.proofs.PlaceLemmas.{WalkedTo}
use Rattle.graphql_input_rules.proofs.values.check_arguments.Given as goal

abbrev pub invariant-loop-argument : goal.invariant-loop-argument
invariant-loop-argument l =
    WalkedTo (λ (a : Node Argument). ValueWritten a.value.value.value.value.value) l.arguments (take l.argument-index l.arguments)
    l.initial.reports.kept.items l.reports.kept.items
