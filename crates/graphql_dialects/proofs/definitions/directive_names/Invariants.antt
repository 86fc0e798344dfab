use Rattle.std.proofs.Common.{◌≡◌, map, take}
use Rattle.graphql_repetitions.specs.References.{nows}
use Rattle.graphql_dialects.proofs.definitions.directive_names.Given as goal

abbrev pub invariant-loop-directive : goal.invariant-loop-directive
invariant-loop-directive l = nows l.names.items ≡ map (λ d. d.name) (nows (take l.directive-index l.directives))
