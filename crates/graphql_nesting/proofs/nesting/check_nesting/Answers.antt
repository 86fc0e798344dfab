use Rattle.std.proofs.Common.{Option, subst}
use Rattle.graphql_nesting.proofs.ExclusionLemmas.{exactly_checked, report_excludes}
use Rattle.graphql_nesting.proofs.CheckLemmas.{document_checked}
use Rattle.indexmap.specs.IndexMap.{values}
use Rattle.std.proofs.lemmas.Result.{IfOk-weaker}
use Rattle.std.specs.Prelude.{IsSome, MatchOption}
use Rattle.graphql_documents.specs.Executables.{operations_of}
use Rattle.graphql_nesting.specs.Checks.{ChecksOperations, ChecksEndless}
use Rattle.graphql_nesting.specs.Nesting.{fragment_nests_deep, operation_nests_deep, IsNestingReportOf, NestsWithin}
use Rattle.graphql_nesting.specs.declared.reports.NestingReport.{NestingReport}
use Rattle.graphql_nesting.proofs.nesting.check_nesting.Goals as goal

pub returns-in-Some-clause-found : goal.returns-in-Some-clause-found
returns-in-Some-clause-found c =
    let document = c.args.document.now in
    let checked = subst (λ (found : Option NestingReport). ChecksOperations c.args.most document (operations_of document) found) c.in-Some.is c.in_ok-report.ensures in
    operation_nests_deep checked.1 checked.2

pub returns-in-Some-clause-exact : goal.returns-in-Some-clause-exact
returns-in-Some-clause-exact c = λ some. report_excludes c.args.most c.args.document.now c.in-Some.report (returns-in-Some-clause-found c)

pub returns-in-Some-check_fragments-clause-found : goal.returns-in-Some-check_fragments-clause-found
returns-in-Some-check_fragments-clause-found c =
    let document = c.args.document.now in
    let operations = subst (λ (found : Option NestingReport). ChecksOperations c.args.most document (operations_of document) found) c.in_default.is c.in_ok-report.ensures in
    let checked = c.in-Some-check_fragments.ensures document c.in_ok-fragments.ensures in
    fragment_nests_deep operations checked.1 checked.2

pub returns-in-Some-check_fragments-clause-exact : goal.returns-in-Some-check_fragments-clause-exact
returns-in-Some-check_fragments-clause-exact c =
    λ some. report_excludes c.args.most c.args.document.now c.in-Some-check_fragments.report (returns-in-Some-check_fragments-clause-found c)

pub returns-clause-found : goal.returns-clause-found
returns-clause-found c =
    let document = c.args.document.now in
    let operations = subst (λ (found : Option NestingReport). ChecksOperations c.args.most document (operations_of document) found) c.in_default.is c.in_ok-report.ensures in
    IfOk-weaker c.check_endless.result (ChecksEndless c.args.most document (values document.fragments))
    (λ r. MatchOption r (NestsWithin c.args.most document) (IsNestingReportOf c.args.most document))
    (λ r. document_checked document c.args.most r operations (c.in_default-check_fragments.ensures document c.in_ok-fragments.ensures))
    (c.check_endless.ensures document c.in_ok-fragments.ensures)

pub returns-clause-exact : goal.returns-clause-exact
returns-clause-exact c =
    let document = c.args.document.now in
    IfOk-weaker c.check_endless.result (λ r. MatchOption r (NestsWithin c.args.most document) (IsNestingReportOf c.args.most document))
    (λ r. IsSome r → ¬ NestsWithin c.args.most document) (λ r. exactly_checked c.args.most document r) (returns-clause-found c)
