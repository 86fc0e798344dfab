-- What texts come to as a schema.
use Rattle.std.proofs.Common.{List}
use Rattle.graphql_parser.specs.declared.bounds.Bounds.{Bounds}
use Rattle.graphql_trees.specs.declared.documents.Document.{Document}
use Rattle.graphql_building_laws.proofs.OutputFieldLaws.{has_output_fields}
use Rattle.graphql_building_laws.proofs.OwnNameLaws.{retained_under_own_names, said_under_own_names}
use Rattle.graphql_frontend.specs.Schemas.{AcceptsOnlyUsableSchemas, JudgesTrees, is_built}
use Rattle.graphql_frontend.specs.declared.schemas.SchemaReading.{SchemaReading}
use Rattle.graphql_frontend.specs.declared.schemas.SchemaReading.TheVariants.{Accepted, Rejected, LacksIntrospection}

pub usable : (bounds : Bounds) (trees : List Document) (reading : SchemaReading) → JudgesTrees bounds trees reading → AcceptsOnlyUsableSchemas reading
usable bounds trees (Accepted retained) (is_built schema builds says judged) = record {
  names = retained_under_own_names schema retained (said_under_own_names trees schema says) judged.retains;
  output_fields = has_output_fields schema retained judged.holds judged.retains judged.meta_fields;
}
usable bounds trees (Rejected reports) judges = tt
usable bounds trees LacksIntrospection judges = tt
