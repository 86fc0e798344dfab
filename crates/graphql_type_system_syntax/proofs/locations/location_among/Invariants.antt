use Rattle.std.proofs.Common.{◌≡◌, drop}
use Rattle.graphql_type_system_syntax.specs.DirectiveDefinitionReaders.{location_among}
use Rattle.graphql_type_system_syntax.proofs.locations.location_among.Given as goal

-- none of those before has the text
abbrev pub invariant-loop-location : goal.invariant-loop-location
invariant-loop-location l = location_among l.locations l.text ≡ location_among (drop l.location-index l.locations) l.text
