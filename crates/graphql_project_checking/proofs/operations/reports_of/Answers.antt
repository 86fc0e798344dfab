use Rattle.std.proofs.Common.{Some, subst}
use Rattle.std.specs.Prelude.{IfOk}
use Rattle.graphql_frontend.specs.Documents.{JudgesDocument}
use Rattle.graphql_frontend.proofs.RuleSetLemmas.{judged_but}
use Rattle.graphql_project_checking.proofs.operations.reports_of.Goals as goal

pub returns : goal.returns
returns c =
    let bytes = c.bytes_of-bytes.result in
    let document = c.in_ok-document.document in
    let Judges = JudgesDocument c.args.context.bounds bytes (Some c.args.context.schema.now) document in
    record {
      silence = λ reports is off only. (
        document,
        c.in_ok-document.ensures,
        judged_but off c.args.context.bounds bytes (Some c.args.context.schema.now) document reports (subst (λ r. IfOk r Judges) is c.validate_built.ensures) only,
      );
      truth = λ reports is. record {
        document = document;
        bytes = bytes;
        is = c.in_ok-document.ensures;
        judged = subst (λ r. IfOk r Judges) is c.validate_built.ensures;
      };
    }
