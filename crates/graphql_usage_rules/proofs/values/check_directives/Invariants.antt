use Rattle.std.proofs.Common.{take}
use Rattle.graphql_usage_rules.specs.Parts.{UsedInDirective}
use Rattle.graphql_usage_rules.proofs.PlaceLemmas.{WalkedTo}
use Rattle.graphql_usage_rules.proofs.values.check_directives.Given as goal

abbrev pub invariant-loop-directive : goal.invariant-loop-directive
invariant-loop-directive l =
    WalkedTo l.variables (λ d. UsedInDirective l.schema d.value.value) l.directives (take l.directive-index l.directives) l.initial.reports.kept.items l.reports.kept.items
