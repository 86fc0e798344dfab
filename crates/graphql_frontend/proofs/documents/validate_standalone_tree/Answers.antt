use Rattle.std.proofs.Common.{◌≡◌, ◌≢◌, [], None, rules}
use Rattle.graphql_building_reports.specs.Checks.{reports_of}
use Rattle.graphql_frontend.specs.Documents.{JudgesDocument, JudgesTree, does_not_build, is_built}
use Rattle.graphql_frontend.proofs.ReportLemmas.{broken, each_true, if_ok, kept, silent}
use Rattle.graphql_frontend.proofs.documents.validate_standalone_tree.Goals as goal

pub build_standalone_document-requires : goal.build_standalone_document-requires
build_standalone_document-requires c =
    let none : reports_of c.check_standalone_document.new.reports ≡ [] = search rules in
    silent _ _ _ _ c.in-Ok.ensures c.with_bound-reports.ensures.empty none

pub returns-in_ok-document-in-Ok : goal.returns-in_ok-document-in-Ok
returns-in_ok-document-in-Ok c =
    let none : reports_of c.check_standalone_document.new.reports ≡ [] = search rules in
    let document = c.in_ok-document-in-Ok.document in
    if_ok (JudgesDocument c.args.bounds c.args.bytes None document) (JudgesTree c.args.bounds c.args.bytes None c.args.tree)
    (λ reports judged. is_built document (silent _ _ _ _ c.in-Ok.ensures c.with_bound-reports.ensures.empty none)
    c.in_ok-document-in-Ok.ensures.says tt judged)
    c.validate_built.result c.validate_built.ensures

pub returns-else-is_empty : goal.returns-else-is_empty
returns-else-is_empty c =
    let some : reports_of c.check_standalone_document.new.reports ≢ [] = search rules in
    does_not_build (broken _ _ _ _ c.in-Ok.ensures c.with_bound-reports.ensures.empty some) some
    (each_true _ _ _ _ c.in-Ok.ensures c.with_bound-reports.ensures.empty)

pub returns-in-Err : goal.returns-in-Err
returns-in-Err c =
    c.first_building_reports.ensures c.args.bytes None c.args.tree (kept _ _ _ c.in-Err.ensures c.with_bound-reports.ensures.empty)
