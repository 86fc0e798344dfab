use Rattle.std.proofs.Common.{◌≡◌, map, take}
use Rattle.graphql_documents.specs.Extensions.{extensions_among}
use Rattle.graphql_schemas.specs.FoundExtensions.{HasTheirNumbers}
use Rattle.graphql_schemas.proofs.extensions.add_components.Given as goal

abbrev pub invariant-loop-component : goal.invariant-loop-component
invariant-loop-component g l = record {
  added : l.found.extensions.items ≡ extensions_among l.initial.found.extensions.items (map (λ c. c.origin) (take l.component-index l.components));
  numbers : HasTheirNumbers l.found;
}
