use Rattle.std.proofs.Common.{take}
use Rattle.graphql_nodes.specs.declared.nodes.Node.{Node}
use Rattle.graphql_documents.specs.declared.documents.directives.Directive.{Directive}
use Rattle.graphql_input_rules.specs.ValuesWritten.{InArguments}
use Rattle.graphql_input_rules.proofs.PlaceLemmas.{WalkedTo}
use Rattle.graphql_input_rules.proofs.values.check_directives.Given as goal

abbrev pub invariant-loop-directive : goal.invariant-loop-directive
invariant-loop-directive l =
    WalkedTo (λ (d : Node Directive). InArguments d.value.value.arguments.items) l.directives (take l.directive-index l.directives)
    l.initial.reports.kept.items l.reports.kept.items
