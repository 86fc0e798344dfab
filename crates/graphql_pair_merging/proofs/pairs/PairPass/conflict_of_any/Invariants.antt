use Rattle.std.proofs.Common.{Contains, take, ◌+◌, ◌*◌, ◌≤◌, length}
use Rattle.graphql_merging.specs.Groups.{pass_of}
use Rattle.graphql_specification.specs.MergedSets.{Agree}
use Rattle.graphql_pair_merging.specs.NumberedSets.{HaveNumbers, field_of}
use Rattle.graphql_pair_merging.specs.declared.numbered_sets.NumberedField.{NumberedField}
use Rattle.graphql_pair_merging.proofs.pairs.PairPass.conflict_of_any.Given as goal

abbrev pub invariant-loop-field : goal.invariant-loop-field
invariant-loop-field g l = record {
  agree : HaveNumbers l.fields → (x y : NumberedField) → Contains (take l.field-index l.fields) x → Contains l.fields y → Agree l.self.schema.now (pass_of l.self.pass) (field_of x) (field_of y);
  cost : l.steps ≤ l.initial.steps + l.field-index * length l.fields;
}
