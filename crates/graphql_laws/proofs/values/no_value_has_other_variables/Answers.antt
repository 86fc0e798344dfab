use Rattle.graphql_documents.proofs.VariableUseLemmas.{one_list_only}
use Rattle.graphql_laws.proofs.values.no_value_has_other_variables.Goals as goal

pub returns : goal.returns
returns c = one_list_only
