use Rattle.std.proofs.Common.{◌≡◌, map, take}
use Rattle.std.specs.Prelude.{filter, not}
use Rattle.graphql_schema_checking.specs.Definitions.{is_built_in_name}
use Rattle.graphql_repetitions.specs.References.{nows}
use Rattle.graphql_schema_checking.proofs.names.DirectiveNames.of.Given as goal

abbrev pub invariant-loop-directive : goal.invariant-loop-directive
invariant-loop-directive l = record {
  own : nows l.names.own.items ≡ filter (λ name. not (is_built_in_name name)) (map (λ d. d.name) (nows (take l.directive-index l.directives)));
  built_in : nows l.names.built_in.items ≡ filter is_built_in_name (map (λ d. d.name) (nows (take l.directive-index l.directives)));
}
