use Rattle.graphql_document_building.proofs.BuildsLemmas.{root_is_there}
use Rattle.graphql_document_building.specs.FieldDefinitions.{schema_of}
use Rattle.graphql_document_building.proofs.documents.build_operation.Goals as goal

pub root-requires : goal.root-requires
root-requires c = root_is_there (schema_of c.args.definitions.now) c.args.tree.now c.requires.builds
