use Rattle.std.proofs.Common.{All, map, take}
use Rattle.graphql_field_conflicts.specs.Comparisons.{HasArgument}
use Rattle.graphql_field_conflicts.proofs.comparisons.first_field.FirstField.conflict_of_seen.Given as goal

-- the others have those so far
abbrev pub invariant-loop-argument : goal.invariant-loop-argument
invariant-loop-argument l = All (λ x. HasArgument l.others x.value.value.name x) (map (λ r. r.now) (take l.argument-index l.self.distinct.items))
