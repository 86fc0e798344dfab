use Rattle.graphql_sameness_laws.proofs.BuildingLemmas.{document_builds_too}
use Rattle.graphql_sameness_laws.proofs.documents.documents_build_against_same_schemas_alike.Goals as goal

pub returns : goal.returns
returns c = document_builds_too
