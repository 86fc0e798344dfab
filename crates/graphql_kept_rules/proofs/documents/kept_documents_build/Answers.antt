use Rattle.graphql_kept_rules.proofs.KeptBuildingLemmas.{document_builds_still}
use Rattle.graphql_kept_rules.proofs.documents.kept_documents_build.Goals as goal

pub returns : goal.returns
returns c = document_builds_still
