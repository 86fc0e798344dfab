use Rattle.graphql_project_laws.proofs.OneFileLemmas.{one_file_is_valid}
use Rattle.graphql_project_laws.proofs.projects.one_file_is_a_valid_document.Goals as goal

pub returns : goal.returns
returns c = one_file_is_valid
