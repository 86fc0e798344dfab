use Rattle.std.proofs.Common.{◌≡◌, ◌≢◌, [], rules}
use Rattle.std.specs.Prelude.{IsOk}
use Rattle.graphql_building_reports.specs.Checks.{reports_of}
use Rattle.graphql_project_checking.specs.Silence.{SilentOnlyIf}
use Rattle.graphql_project_checking.proofs.SilenceLemmas.{on_ok, silent_so}
use Rattle.graphql_project_checking.proofs.building.add_reports.Goals as goal

pub returns-in-Ok : goal.returns-in-Ok
returns-in-Ok c =
    let old = c.args.found.now.items in
    let new = c.add_all.new.found.items in
    let H = reports_of c.args.reports ≡ [] in
    record {
      silence = on_ok (SilentOnlyIf old new H) (SilentOnlyIf old new (IsOk c.args.checked × H))
          (silent_so old new H (IsOk c.args.checked × H) (λ h. (search rules, h))) c.add_all.result c.add_all.ensures.silence;
      truth = c.add_all.ensures.truth;
    }

pub returns-in-Err : goal.returns-in-Err
returns-in-Err c =
    let old = c.args.found.now.items in
    let new = c.add_first.new.found.items in
    let H = reports_of c.args.reports ≡ [] in
    record {
      silence = on_ok (new ≢ []) (SilentOnlyIf old new (IsOk c.args.checked × H)) (λ some none. absurd (some none)) c.add_first.result c.add_first.ensures.some;
      truth = c.add_first.ensures.truth;
    }
