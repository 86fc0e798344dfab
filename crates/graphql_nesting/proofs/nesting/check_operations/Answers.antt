use Rattle.std.proofs.Common.{◌++◌, Option, subst}
use Rattle.graphql_nesting.specs.Nesting.{OperationNests}
use Rattle.std.specs.Prelude.{option_to_list}
use Rattle.std.proofs.lemmas.Result.{IfOk-weaker}
use Rattle.indexmap.specs.IndexMap.{values}
use Rattle.graphql_documents.specs.Selections.{fragments_of}
use Rattle.graphql_nesting.specs.Checks.{ChecksOperations}
use Rattle.graphql_nesting.specs.declared.reports.NestingReport.{NestingReport}
use Rattle.graphql_nesting.proofs.CheckLemmas.{operations_then, first_ahead}
use Rattle.graphql_nesting.proofs.nesting.check_operations.Goals as goal

pub returns-in-Some : goal.returns-in-Some
returns-in-Some c =
    let document = c.args.document.now in
    let first = option_to_list document.operations.anonymous in
    let checked = subst (λ (found : Option NestingReport). ChecksOperations c.args.most document first found) c.in-Some.is c.in_ok-report.ensures in
    (checked.0, first_ahead (OperationNests (fragments_of document) c.args.most) first (values document.operations.named) checked.0 checked.1, checked.2)

pub returns : goal.returns
returns c =
    let document = c.args.document.now in
    let first = option_to_list document.operations.anonymous in
    let checked = subst (λ (found : Option NestingReport). ChecksOperations c.args.most document first found) c.in_default.is c.in_ok-report.ensures in
    IfOk-weaker c.check_named.result (ChecksOperations c.args.most document (values document.operations.named)) (ChecksOperations c.args.most document (first ++ values document.operations.named))
    (λ r. operations_then document c.args.most first (values document.operations.named) r checked) c.check_named.ensures
