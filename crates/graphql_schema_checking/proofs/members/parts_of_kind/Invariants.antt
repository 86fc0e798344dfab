use Rattle.std.proofs.Common.{◌≡◌, ◌∷◌, take}
use Rattle.std.specs.Prelude.{filter}
use Rattle.graphql_schema_checking.specs.Definitions.{kind_of, same_kind}
use Rattle.graphql_repetitions.specs.References.{nows}
use Rattle.graphql_schema_checking.proofs.members.parts_of_kind.Given as goal

abbrev pub invariant-loop-extension : goal.invariant-loop-extension
invariant-loop-extension l = nows l.parts.items ≡ l.definition ∷ filter (λ e. same_kind l.kind (kind_of e)) (nows (take l.extension-index l.extensions))
