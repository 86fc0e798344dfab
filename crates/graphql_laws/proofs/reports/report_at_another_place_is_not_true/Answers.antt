use Rattle.graphql_laws.proofs.ReportLaws.{other_place}
use Rattle.graphql_laws.proofs.reports.report_at_another_place_is_not_true.Goals as goal

pub returns : goal.returns
returns c = other_place
