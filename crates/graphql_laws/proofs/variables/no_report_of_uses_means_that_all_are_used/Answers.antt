use Rattle.graphql_laws.proofs.VariableLaws.{none_reported}
use Rattle.graphql_laws.proofs.variables.no_report_of_uses_means_that_all_are_used.Goals as goal

pub returns : goal.returns
returns c = none_reported
