use Rattle.graphql_documents.specs.Selections.{fragments_of}
use Rattle.graphql_operation_laws.proofs.AgreementLemmas.{agree_back}
use Rattle.graphql_operation_laws.proofs.FurtherReportLemmas.{defer_at_root_back, fixed_defer_back, merging_report_back, misuse_report_back, root_report_back, undefined_report_back}
use Rattle.graphql_operation_laws.proofs.ReportLemmas.{report_back}
use Rattle.graphql_operation_laws.proofs.reports.operation_is_reported_by_reached.Goals as goal

pub returns-clause-rules : goal.returns-clause-rules
returns-clause-rules c schema d e o agree r at =
    (report_back schema e d o r at (agree_back (fragments_of d) (fragments_of e) agree), report_back schema d e o r at agree)

pub returns-clause-root : goal.returns-clause-root
returns-clause-root c schema d e o agree r at =
    let a = fragments_of d in let b = fragments_of e in
    (root_report_back b a schema o r at (agree_back a b agree), root_report_back a b schema o r at agree)

pub returns-clause-defer_at_root : goal.returns-clause-defer_at_root
returns-clause-defer_at_root c d e o agree t at =
    let a = fragments_of d in let b = fragments_of e in
    (defer_at_root_back b a o t at (agree_back a b agree), defer_at_root_back a b o t at agree)

pub returns-clause-fixed_defer : goal.returns-clause-fixed_defer
returns-clause-fixed_defer c d e o agree at =
    let a = fragments_of d in let b = fragments_of e in
    (fixed_defer_back b a o at (agree_back a b agree), fixed_defer_back a b o at agree)

pub returns-clause-merging : goal.returns-clause-merging
returns-clause-merging c schema d e o agree r at =
    let a = fragments_of d in let b = fragments_of e in
    (merging_report_back b a schema o.selection_set r at (agree_back a b agree), merging_report_back a b schema o.selection_set r at agree)

pub returns-clause-undefined : goal.returns-clause-undefined
returns-clause-undefined c d e o agree r =
    let a = fragments_of d in let b = fragments_of e in
    (undefined_report_back b a o r (agree_back a b agree), undefined_report_back a b o r agree)

pub returns-clause-misuse : goal.returns-clause-misuse
returns-clause-misuse c schema d e o agree m =
    (misuse_report_back schema e d o m (agree_back (fragments_of d) (fragments_of e) agree), misuse_report_back schema d e o m agree)
