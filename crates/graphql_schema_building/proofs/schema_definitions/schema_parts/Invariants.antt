use Rattle.std.proofs.Common.{◌≡◌, map, take}
use Rattle.graphql_documents.specs.declared.documents.components.ComponentOrigin.TheVariants as origin
use Rattle.graphql_repetitions.specs.References.{nows}
use Rattle.graphql_schema_building.specs.Numbered.{schema_originated}
use Rattle.graphql_schema_building.proofs.schema_definitions.schema_parts.Given as goal

abbrev pub invariant-loop-definition : goal.invariant-loop-definition
invariant-loop-definition l = schema_originated l.parts.items ≡ map (λ d. (origin.Definition, d)) (nows (take l.definition-index l.schemas))
