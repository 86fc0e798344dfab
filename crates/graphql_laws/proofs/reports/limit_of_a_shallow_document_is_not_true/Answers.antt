use Rattle.graphql_laws.proofs.ReportLaws.{no_limit}
use Rattle.std.proofs.Common.{None, refl}
use Rattle.graphql_laws.proofs.reports.limit_of_a_shallow_document_is_not_true.Goals as goal

pub returns : goal.returns
returns c schema document shallow = no_limit document shallow schema _ None refl
