use Rattle.std.proofs.Common.{◌≡◌, map, take}
use Rattle.std.specs.Prelude.{Some}
use Rattle.graphql_repetitions.specs.References.{nows}
use Rattle.graphql_schema_checking.proofs.roots.schema_places.Given as goal

abbrev pub invariant-loop-schema : goal.invariant-loop-schema
invariant-loop-schema l = l.places.items ≡ map (λ d. Some d.span) (nows (take l.schema-index l.schemas))
