use Rattle.std.proofs.Common.{inl, inr}
use Rattle.graphql_diagnostics.specs.Reports.{KeepsReports}
use Rattle.graphql_frontend.specs.InputFields.{InputFieldReport, InputFieldsAreUnique}
use Rattle.graphql_projects.specs.Defer.{LabelsHold}
use Rattle.graphql_project_checking.specs.Silence.{QuietOnlyIf}
use Rattle.graphql_project_checking.specs.Truth.{AreOfDefinitions, AreOfInputFields, AreOfRules, IsDeferEntry}
use Rattle.graphql_project_checking.proofs.SilenceLemmas.{on_ok, quiet_then}
use Rattle.graphql_project_checking.proofs.TruthLemmas.{adds_so, adds_then}
use Rattle.graphql_project_checking.proofs.file_rules.check_file_rules.Goals as goal

pub returns : goal.returns
returns c =
    let d = c.args.document.now in
    let old = c.args.found.now.items in
    let mid = c.check_labels.new.found.items in
    let new = c.check_values.new.found.items in
    record {
      silence = on_ok (QuietOnlyIf mid new (λ off. InputFieldsAreUnique d)) (QuietOnlyIf old new (λ off. LabelsHold d × InputFieldsAreUnique d))
          (quiet_then old mid new (λ off. LabelsHold d) (λ off. InputFieldsAreUnique d) (λ off. LabelsHold d × InputFieldsAreUnique d) (λ off a b. (a, b)) c.in_ok-check_labels.ensures.silence)
          c.check_values.result c.check_values.ensures.silence;
      truth = on_ok (KeepsReports (AreOfInputFields (InputFieldReport d)) mid new) (KeepsReports (AreOfDefinitions d) old new)
          (λ adds. adds_then (AreOfDefinitions d) old mid new
          (adds_so (AreOfRules (IsDeferEntry d)) (AreOfDefinitions d) old mid (λ r are. inl are) c.in_ok-check_labels.ensures.truth)
          (adds_so (AreOfInputFields (InputFieldReport d)) (AreOfDefinitions d) mid new (λ r are. inr are) adds)) c.check_values.result c.check_values.ensures.truth;
    }
