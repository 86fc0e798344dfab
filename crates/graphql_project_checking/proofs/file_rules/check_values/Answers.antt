use Rattle.std.proofs.Common.{◌≡◌, ◌∙◌, [], subst, sym}
use Rattle.std.specs.Prelude.{All, Contains}
use Rattle.graphql_diagnostics.specs.Reports.{KeepsReports}
use Rattle.graphql_frontend.specs.InputFields.{InputFieldReport, InputFieldsAreUnique}
use Rattle.graphql_frontend.specs.Documents.{IsOnlyOff}
use Rattle.graphql_frontend.specs.RuleSets.{RuleSet}
use Rattle.graphql_frontend.specs.Lists.{reports_of}
use Rattle.graphql_project_checking.specs.Silence.{QuietOnlyIf}
use Rattle.graphql_project_checking.specs.Truth.{AreOfInputFields}
use Rattle.graphql_project_checking.proofs.SilenceLemmas.{holds_of, never_quiet, on_ok, quiet_so}
use Rattle.graphql_project_checking.proofs.TruthLemmas.{each_checked, of_field_list}
use Rattle.graphql_project_checking.proofs.file_rules.check_values.Goals as goal

pub returns-in-Ok : goal.returns-in-Ok
returns-in-Ok c =
    let d = c.args.document.now in
    let old = c.args.found.now.items in
    let new = c.add_values.new.found.items in
    let list = c.into_reports.result.items in
    let H = λ (off : RuleSet). list ≡ [] in
    let each : All (InputFieldReport d) (reports_of c.check_input_fields.new.reports) =
    each_checked c.check_input_fields.result _ _ _ _ c.check_input_fields.ensures c.with_bound-list.ensures.empty in
    record {
      silence = on_ok (QuietOnlyIf old new H) (QuietOnlyIf old new (λ off. InputFieldsAreUnique d))
          (quiet_so old new H (λ off. InputFieldsAreUnique d) (λ off none. holds_of _ _ _ _ c.in-Ok.ensures c.with_bound-list.ensures.empty (sym c.into_reports.ensures ∙ none)))
          c.add_values.result c.add_values.ensures.silence;
      truth = on_ok (KeepsReports (AreOfInputFields (Contains list)) old new) (KeepsReports (AreOfInputFields (InputFieldReport d)) old new)
          (of_field_list old new (InputFieldReport d) list (subst (All (InputFieldReport d)) (sym c.into_reports.ensures) each)) c.add_values.result c.add_values.ensures.truth;
    }

pub returns-in-Err : goal.returns-in-Err
returns-in-Err c =
    let d = c.args.document.now in
    let old = c.args.found.now.items in
    let new = c.add_first_values.new.found.items in
    let list = reports_of c.check_input_fields.new.reports in
    let each : All (InputFieldReport d) list = each_checked c.check_input_fields.result _ _ _ _ c.check_input_fields.ensures c.with_bound-list.ensures.empty in
    record {
      silence = on_ok ((off : RuleSet) → ¬ All (IsOnlyOff off) new) (QuietOnlyIf old new (λ off. InputFieldsAreUnique d)) (never_quiet old new (λ off. InputFieldsAreUnique d)) c.add_first_values.result c.add_first_values.ensures.some;
      truth = on_ok (KeepsReports (AreOfInputFields (Contains list)) old new) (KeepsReports (AreOfInputFields (InputFieldReport d)) old new)
          (of_field_list old new (InputFieldReport d) list each) c.add_first_values.result c.add_first_values.ensures.truth;
    }
