use Rattle.std.proofs.Common.{refl, rules, subst, sym}
use Rattle.graphql_diagnostics.specs.Reports.{KeepsReports}
use Rattle.graphql_reporting.proofs.PushLemmas.{added_to, as_before}
use Rattle.graphql_diagnostics.proofs.ReportLemmas.{broken, checks-err, kept}
use Rattle.graphql_usage_rules.specs.Parts.{location_at}
use Rattle.graphql_usage_rules.specs.VariableMisuses.{MisuseReport}
use Rattle.graphql_usage_rules.proofs.UsageLemmas.{IsThis}
use Rattle.graphql_usage_rules.proofs.values.report_misuse.Goals as goal

pub returns-in_err-push : goal.returns-in_err-push
returns-in_err-push c = λ variables is.
    let Report = MisuseReport variables (IsThis variables c.args.name.now c.args.place (location_at c.args.location)) in
    let old = c.args.reports.now.kept.items in
    checks-err c.from_residual-in_err-push.result ⊥ Report old c.push.new.self.kept.items c.from_residual-in_err-push.ensures.0
    (subst (λ l. KeepsReports Report old l) (sym (as_before c.in_err-push.ensures.err c.admit.ensures.reports)) (kept Report old))

pub returns : goal.returns
returns c = λ variables is.
    broken _ _ _ _ _ (added_to _ c.in_ok-push.ensures.ok c.admit.ensures.reports) (λ x. x) (record {
      usage = _;
      used = refl;
      v = c.args.variable.now;
      is_variable = is;
      disallowed = c.requires;
      name_is = search rules;
      variable_type_is = search rules;
      location_type_is = search rules;
      definition_location_is = refl;
      location_is = search rules;
    })
