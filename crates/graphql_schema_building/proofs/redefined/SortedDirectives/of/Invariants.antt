use Rattle.std.proofs.Common.{◌≡◌, take}
use Rattle.std.specs.Prelude.{filter, not}
use Rattle.graphql_repetitions.specs.References.{nows}
use Rattle.graphql_schema_building.specs.SchemaSays.{is_built_in_directive}
use Rattle.graphql_schema_building.proofs.redefined.SortedDirectives.of.Given as goal

abbrev pub invariant-loop-directive : goal.invariant-loop-directive
invariant-loop-directive l = record {
  built_in : nows l.sorted.built_in.items ≡ filter is_built_in_directive (nows (take l.directive-index l.directives));
  own : nows l.sorted.own.items ≡ filter (λ d. not (is_built_in_directive d)) (nows (take l.directive-index l.directives));
}
