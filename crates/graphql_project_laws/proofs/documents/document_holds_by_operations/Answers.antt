use Rattle.graphql_project_laws.proofs.DocumentLemmas.{holds_by_operations}
use Rattle.graphql_project_laws.proofs.documents.document_holds_by_operations.Goals as goal

pub returns : goal.returns
returns c = holds_by_operations
