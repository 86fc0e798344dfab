use Rattle.std.proofs.Common.{◌∷◌, All, take, ◌≡◌, ◌+◌}
use Rattle.graphql_merging.specs.Groups.{pass_of}
use Rattle.graphql_specification.specs.MergedSets.{Agree}
use Rattle.graphql_pair_merging.specs.NumberedSets.{HaveNumbers, field_of}
use Rattle.graphql_pair_merging.proofs.pairs.PairPass.conflict_with_each.Given as goal

abbrev pub invariant-loop-other : goal.invariant-loop-other
invariant-loop-other g l = record {
  agree : HaveNumbers (l.field ∷ l.others) → All (λ other. Agree l.self.schema.now (pass_of l.self.pass) (field_of l.field) (field_of other)) (take l.other-index l.others);
  cost : l.steps ≡ l.initial.steps + l.other-index;
}
