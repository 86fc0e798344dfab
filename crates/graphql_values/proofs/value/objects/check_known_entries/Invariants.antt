use Rattle.std.proofs.Common.{◌≡◌, All, take}
use Rattle.graphql_diagnostics.specs.Diagnostics.{entries}
use Rattle.graphql_specification.specs.Values.{IsInputField}
use Rattle.graphql_values.proofs.value.objects.check_known_entries.Given as goal

abbrev pub invariant-loop-name : goal.invariant-loop-name
invariant-loop-name l = record {
  unchanged : entries l.diagnostics ≡ entries l.initial.diagnostics;
  known : All (λ entry. IsInputField l.input_object.value.value entry.0) (take l.name-index l.entries);
}
