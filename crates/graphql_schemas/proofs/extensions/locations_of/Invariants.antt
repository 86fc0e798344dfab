use Rattle.std.proofs.Common.{◌≡◌, map, take}
use Rattle.graphql_schemas.proofs.extensions.locations_of.Given as goal

abbrev pub invariant-loop-extension : goal.invariant-loop-extension
invariant-loop-extension l = l.locations.items ≡ map (λ e. e.location) (take l.extension-index l.extensions)
