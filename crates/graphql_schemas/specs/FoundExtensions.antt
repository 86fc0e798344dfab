-- Extensions that are gathered beside a set of their numbers, for the contracts of private functions.
use Rattle.std.specs.Prelude.{◌≡◌, ◌==◌, ℕ, nat_eq}
use Rattle.std.specs.HashSet.{contains}
use Rattle.std.specs.List.{list_any}
use Rattle.graphql_schemas.specs.declared.extensions.FoundExtensions.{FoundExtensions}

-- the set has the numbers of the extensions, and no others
pub record HasTheirNumbers (found : FoundExtensions) : Type 0 where
  pub each : (number : ℕ) → contains nat_eq found.numbers number ≡ list_any (λ known. known.number == number) found.extensions.items
