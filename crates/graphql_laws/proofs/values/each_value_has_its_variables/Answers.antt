use Rattle.graphql_documents.proofs.VariableUseLemmas.{each_has_variables}
use Rattle.graphql_laws.proofs.values.each_value_has_its_variables.Goals as goal

pub returns : goal.returns
returns c = each_has_variables
