use Rattle.std.proofs.Common.{Some, subst}
use Rattle.graphql_frontend.specs.Documents.{ValidatesDocument}
use Rattle.graphql_frontend.specs.Verdicts.{holds, rejected}
use Rattle.graphql_frontend.proofs.verdicts.validate_against.Goals as goal

pub returns-in-None : goal.returns-in-None
returns-in-None c = holds (subst (ValidatesDocument c.args.bounds (Some c.args.schema.now) c.args.document) c.in-None.is c.in_ok-validate_document.ensures)

pub returns-in-Some : goal.returns-in-Some
returns-in-Some c = rejected (subst (ValidatesDocument c.args.bounds (Some c.args.schema.now) c.args.document) c.in-Some.is c.in_ok-validate_document.ensures)
