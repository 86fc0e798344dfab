use Rattle.std.proofs.Common.{◌≡◌, All, map, take}
use Rattle.std.specs.List.{IsDistinct}
use Rattle.std.specs.Map.{keys_of}
use Rattle.graphql_nodes.specs.Names.{different_names}
use Rattle.graphql_variables.proofs.NameSetLemmas.{entry_names, same_key}
use Rattle.graphql_variables.proofs.UnusedLemmas.{IsLast}
use Rattle.graphql_variables.proofs.unused.last_definitions.Given as goal

abbrev pub invariant-loop-variable : goal.invariant-loop-variable
invariant-loop-variable l = record {
  names : entry_names l.last.entries ≡ different_names (map (λ v. v.value.value.name) (take l.variable-index l.variables));
  definitions : All (IsLast (take l.variable-index l.variables)) l.last.entries;
  distinct : IsDistinct same_key (keys_of l.last.entries);
}
