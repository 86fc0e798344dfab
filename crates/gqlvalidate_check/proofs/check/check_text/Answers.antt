use Rattle.std.proofs.Common.{Some, subst}
use Rattle.graphql_frontend.specs.Documents.{ValidatesDocument}
use Rattle.gqlvalidate_check.proofs.check.check_text.Goals as goal

pub returns-in_ok-report_document-in-Some-clause-reported :
    goal.returns-in_ok-report_document-in-Some-clause-reported
returns-in_ok-report_document-in-Some-clause-reported g c = λ reported.
    (c.in-Some.reports, subst (ValidatesDocument c.args.bounds (Some c.args.schema.now) c.args.document.source) c.in-Some.is c.in_ok-validate_document.ensures)
