-- What was collected so far is what is in the first sets.
use Rattle.std.proofs.Common.{◌≡◌, [], List, map, take}
use Rattle.graphql_specification.specs.Merging.{FieldSelection}
use Rattle.graphql_field_conflicts.specs.FieldSelections.{listed}
use Rattle.graphql_validation.specs.CollectionSteps.{WalksOver, visited_of}
use Rattle.graphql_validation.proofs.collect.collect_fields.Given as goal

abbrev pub invariant-loop-set : goal.invariant-loop-set
invariant-loop-set l = record {
  fields : List FieldSelection;
  walks : WalksOver l.collection (map (λ s. s.now) (take l.set-index l.sets)) [] fields (visited_of l.found);
  appended : listed l.found.fields.items ≡ fields;
}
