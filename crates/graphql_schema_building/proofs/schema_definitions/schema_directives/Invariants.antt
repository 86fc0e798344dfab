use Rattle.std.proofs.Common.{take}
use Rattle.graphql_leaf_building.specs.Directives.{DirectiveSays}
use Rattle.graphql_schema_building.specs.Numbered.{schema_originated}
use Rattle.graphql_schema_building.specs.Parts.{ComponentsSay, listed_by}
use Rattle.graphql_schema_building.proofs.schema_definitions.schema_directives.Given as goal

abbrev pub invariant-loop-part : goal.invariant-loop-part
invariant-loop-part l = ComponentsSay DirectiveSays (listed_by (λ part. part.directives) (schema_originated (take l.part-index l.parts))) l.directives.items
