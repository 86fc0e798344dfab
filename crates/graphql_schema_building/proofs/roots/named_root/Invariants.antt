use Rattle.std.proofs.Common.{◌≡◌, None, take}
use Rattle.graphql_schema_checking.specs.SchemaBuilds.{roots_of_kind}
use Rattle.graphql_schema_building.specs.Numbered.{schema_originated}
use Rattle.graphql_schema_building.specs.Parts.{listed_by}
use Rattle.graphql_schema_building.specs.SchemaSays.{first_of_list}
use Rattle.graphql_schema_building.proofs.roots.named_root.Given as goal

abbrev pub invariant-loop-part : goal.invariant-loop-part
invariant-loop-part l = first_of_list (listed_by (λ part. roots_of_kind l.operation_type part.root_operations) (schema_originated (take l.part-index l.parts))) ≡ None
