use Rattle.std.proofs.Common.{◌≡◌, map, take}
use Rattle.graphql_documents.specs.Extensions.{extensions_among}
use Rattle.graphql_schemas.specs.FoundExtensions.{HasTheirNumbers}
use Rattle.graphql_schemas.proofs.extensions.add_names.Given as goal

abbrev pub invariant-loop-name : goal.invariant-loop-name
invariant-loop-name l = record {
  added : l.found.extensions.items ≡ extensions_among l.initial.found.extensions.items (map (λ c. c.origin) (take l.name-index l.names));
  numbers : HasTheirNumbers l.found;
}
