use Rattle.std.specs.Prelude.{All, Contains, IsOk}
use Rattle.graphql_diagnostics.specs.Diagnostics.{entries}
use Rattle.graphql_diagnostics.specs.Reports.{KeepsReports}
use Rattle.graphql_projects.specs.Defer.{LabelsHold}
use Rattle.graphql_frontend.proofs.RuleSetLemmas.{defer_is_not_off}
use Rattle.graphql_frontend.specs.RuleSets.{NamesRuleIn, RuleSet}
use Rattle.graphql_project_checking.specs.Silence.{QuietOnlyIf}
use Rattle.graphql_project_checking.specs.Truth.{AreOfRules, IsDeferEntry}
use Rattle.graphql_project_checking.proofs.SilenceLemmas.{checked_within, no_entry, on_ok, quiet_so}
use Rattle.graphql_project_checking.proofs.TruthLemmas.{each_within, of_rule_list}
use Rattle.graphql_project_checking.proofs.file_rules.check_labels.Goals as goal

pub returns : goal.returns
returns c =
    let d = c.args.document.now in
    let old = c.args.found.now.items in
    let new = c.add_rules.new.found.items in
    let checked = c.validate_defer-checked.result in
    let list = entries c.validate_defer-checked.new.diagnostics in
    let H = λ (off : RuleSet). IsOk checked × All (λ e. NamesRuleIn off e.details) list in
    let each : All (IsDeferEntry d) list = each_within checked _ _ _ _ _ c.validate_defer-checked.ensures c.with_bound-rules.ensures.empty in
    record {
      silence = on_ok (QuietOnlyIf old new H) (QuietOnlyIf old new (λ off. LabelsHold d))
          (quiet_so old new H (λ off. LabelsHold d)
          (λ off h. (checked_within checked _ _ _ _ _ c.validate_defer-checked.ensures c.with_bound-rules.ensures.empty h.0
          (no_entry (IsDeferEntry d) off (defer_is_not_off off d) list each h.1)).labels))
          c.add_rules.result c.add_rules.ensures.silence;
      truth = on_ok (KeepsReports (AreOfRules (Contains list)) old new) (KeepsReports (AreOfRules (IsDeferEntry d)) old new) (of_rule_list old new (IsDeferEntry d) list each)
          c.add_rules.result c.add_rules.ensures.truth;
    }
