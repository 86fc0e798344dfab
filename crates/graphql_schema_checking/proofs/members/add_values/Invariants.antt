use Rattle.std.proofs.Common.{◌≡◌, ◌++◌, map, take}
use Rattle.graphql_repetitions.specs.References.{nows}
use Rattle.graphql_schema_checking.proofs.members.add_values.Given as goal

abbrev pub invariant-loop-value : goal.invariant-loop-value
invariant-loop-value l = nows l.names.items ≡ nows l.initial.names.items ++ map (λ value. value.name) (take l.value-index l.values)
