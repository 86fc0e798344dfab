use Rattle.std.proofs.Common.{◌≡◌, ◌≢◌, ◌∙◌, [], rules, subst, sym}
use Rattle.std.specs.Prelude.{All, Contains, OnOk}
use Rattle.graphql_diagnostics.specs.Reports.{KeepsReports}
use Rattle.graphql_frontend.specs.Documents.{IsOnlyOff}
use Rattle.graphql_frontend.specs.RuleSets.{RuleSet}
use Rattle.graphql_frontend.specs.Lists.{reports_of}
use Rattle.graphql_project_checking.specs.Silence.{QuietOnlyIf}
use Rattle.graphql_project_checking.specs.Truth.{AreOfInputFields}
use Rattle.graphql_project_checking.proofs.SilenceLemmas.{on_ok}
use Rattle.graphql_project_checking.proofs.file_rules.add_first_values.Goals as goal

pub returns : goal.returns
returns c =
    let some : reports_of c.args.list ≢ [] = search rules in
    let new = c.add_values.new.found.items in
    let old = c.args.found.now.items in
    let H = λ (off : RuleSet). c.into_reports.result.items ≡ [] in
    record {
      some = on_ok (QuietOnlyIf old new H) ((off : RuleSet) → ¬ All (IsOnlyOff off) new) (λ quiet off all. some (sym c.into_reports.ensures ∙ (quiet off all).1)) c.add_values.result c.add_values.ensures.silence;
      truth = subst (λ l. OnOk c.add_values.result (KeepsReports (AreOfInputFields (Contains l)) old new)) c.into_reports.ensures c.add_values.ensures.truth;
    }
