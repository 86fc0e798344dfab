use Rattle.std.proofs.Common.{◌≡◌, ◌≢◌, [], rules}
use Rattle.graphql_building_reports.specs.Checks.{reports_of}
use Rattle.graphql_frontend.specs.Schemas.{Judges, JudgesTrees, does_not_build, is_built}
use Rattle.graphql_frontend.proofs.ReportLemmas.{broken, each_true, if_ok, kept, silent}
use Rattle.graphql_frontend.proofs.schemas.schema_of_documents.Goals as goal

pub build_schema-requires : goal.build_schema-requires
build_schema-requires c =
    let none : reports_of c.check_schema.new.reports ≡ [] = search rules in
    silent _ _ _ _ c.in-Ok.ensures c.with_bound-reports.ensures.empty none

pub returns-in_ok-schema-in-Ok : goal.returns-in_ok-schema-in-Ok
returns-in_ok-schema-in-Ok c =
    let none : reports_of c.check_schema.new.reports ≡ [] = search rules in
    if_ok (Judges c.args.bounds c.in_ok-schema-in-Ok.schema) (JudgesTrees c.args.bounds c.args.documents.now)
    (λ reading judged. is_built c.in_ok-schema-in-Ok.schema (silent _ _ _ _ c.in-Ok.ensures c.with_bound-reports.ensures.empty none) c.in_ok-schema-in-Ok.ensures judged)
    c.validated.result c.validated.ensures

pub returns-else-is_empty : goal.returns-else-is_empty
returns-else-is_empty c =
    let some : reports_of c.check_schema.new.reports ≢ [] = search rules in
    does_not_build (broken _ _ _ _ c.in-Ok.ensures c.with_bound-reports.ensures.empty some) some
    (each_true _ _ _ _ c.in-Ok.ensures c.with_bound-reports.ensures.empty)

pub returns-in-Err : goal.returns-in-Err
returns-in-Err c = c.first_building_reports.ensures c.args.documents.now (kept _ _ _ c.in-Err.ensures c.with_bound-reports.ensures.empty)
