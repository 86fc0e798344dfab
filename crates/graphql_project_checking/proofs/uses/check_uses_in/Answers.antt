use Rattle.std.proofs.Common.{subst}
use Rattle.std.specs.Prelude.{All, Contains, IsOk, OnOk}
use Rattle.graphql_diagnostics.specs.Diagnostics.{entries}
use Rattle.graphql_diagnostics.specs.Reports.{KeepsReports}
use Rattle.graphql_document_checking.specs.Trees.{fragments_in}
use Rattle.graphql_frontend.specs.RuleSets.{NamesRuleIn, RuleSet}
use Rattle.graphql_variables.specs.Uses.{names_of}
use Rattle.graphql_project_checking.specs.Silence.{QuietOnlyIf, ReportsUnused}
use Rattle.graphql_project_checking.specs.Truth.{AreOfRules, IsUnnamedEntry}
use Rattle.graphql_project_checking.proofs.SilenceLemmas.{at_ok, no_entry, on_ok, quiet_so}
use Rattle.graphql_project_checking.proofs.TruthLemmas.{all_added, of_rule_list}
use Rattle.graphql_project_checking.proofs.UseLemmas.{UsedUnlessOff, unused_is_not_off}
use Rattle.graphql_project_checking.proofs.uses.check_uses_in.Goals as goal

pub returns : goal.returns
returns c =
    let used = names_of c.args.used.now.keys in
    let old = c.args.found.now.items in
    let new = c.add_rules.new.found.items in
    let checked = c.report_unused-checked.result in
    let first = entries c.with_bound-rules.result in
    let list = entries c.report_unused-checked.new.rules in
    let H = λ (off : RuleSet). IsOk checked × All (λ e. NamesRuleIn off e.details) list in
    let fragments = fragments_in c.args.document.now.definitions in
    let K = UsedUnlessOff used fragments in
    let True = IsUnnamedEntry used fragments in
    let reports = subst (λ l. OnOk checked (ReportsUnused used (fragments_in l) first list)) c.as_slice.ensures c.report_unused-checked.ensures.silence in
    let adds = subst (λ l. KeepsReports (IsUnnamedEntry used (fragments_in l)) first list) c.as_slice.ensures c.report_unused-checked.ensures.truth in
    let each = all_added True first list adds c.with_bound-rules.ensures.empty in
    record {
      silence = on_ok (QuietOnlyIf old new H) (QuietOnlyIf old new K)
          (quiet_so old new H K (λ off h on. (at_ok _ checked reports h.0 (no_entry True off (unused_is_not_off off on used fragments) list each h.1)).1)) c.add_rules.result c.add_rules.ensures.silence;
      truth = on_ok (KeepsReports (AreOfRules (Contains list)) old new) (KeepsReports (AreOfRules True) old new)
          (of_rule_list old new True list each) c.add_rules.result c.add_rules.ensures.truth;
    }
