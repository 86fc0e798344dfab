use Rattle.std.proofs.Common.{◌≡◌, map, take}
use Rattle.graphql_documents.specs.Selections.{fields_among}
use Rattle.graphql_operations.proofs.subscription.field_names.Given as goal

abbrev pub invariant-loop-selection : goal.invariant-loop-selection
invariant-loop-selection l = l.names.items ≡ map (λ f. f.value.value.name) (fields_among (map (λ s. s.now) (take l.selection-index l.selections)))
