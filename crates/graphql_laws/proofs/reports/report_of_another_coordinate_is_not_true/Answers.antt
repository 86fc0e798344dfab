use Rattle.graphql_laws.proofs.ReportLaws.{other_coordinate}
use Rattle.graphql_laws.proofs.reports.report_of_another_coordinate_is_not_true.Goals as goal

pub returns : goal.returns
returns c = other_coordinate
