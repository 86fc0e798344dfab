use Rattle.graphql_project_laws.proofs.OneFileLemmas.{one_file_is_a_document}
use Rattle.graphql_project_laws.proofs.ValidDocumentLemmas.{valid_document_is_project}
use Rattle.graphql_project_laws.proofs.projects.a_valid_document_is_a_project_of_one_file.Goals as goal

pub returns : goal.returns
returns c = record {
  holds = valid_document_is_project;
  exactly = λ bounds schema source has_token. (
    one_file_is_a_document bounds schema source has_token,
    λ (tree, document, text, builds, says, holds). valid_document_is_project bounds schema source tree document text builds says holds,
  );
}
