use Rattle.std.proofs.Common.{take}
use Rattle.graphql_usage_rules.specs.Parts.{UsedInArgument}
use Rattle.graphql_usage_rules.proofs.PlaceLemmas.{WalkedTo}
use Rattle.graphql_usage_rules.proofs.values.check_arguments.Given as goal

abbrev pub invariant-loop-argument : goal.invariant-loop-argument
invariant-loop-argument l =
    WalkedTo l.variables (λ a. UsedInArgument l.schema l.definitions a.value.value) l.arguments (take l.argument-index l.arguments) l.initial.reports.kept.items l.reports.kept.items
