use Rattle.std.proofs.Common.{rules, subst, sym}
use Rattle.graphql_diagnostics.specs.Reports.{KeepsReports}
use Rattle.graphql_reporting.proofs.PushLemmas.{added_to, as_before}
use Rattle.graphql_diagnostics.proofs.ReportLemmas.{broken, checks-err, kept}
use Rattle.graphql_input_rules.specs.InputFields.{RepetitionReport}
use Rattle.graphql_input_rules.proofs.values.report_repetition.Goals as goal

pub returns-in_err-push : goal.returns-in_err-push
returns-in_err-push c = λ all before first next found place.
    let Report = RepetitionReport all in
    let old = c.args.reports.now.kept.items in
    checks-err c.from_residual-in_err-push.result ⊥ Report old c.push.new.self.kept.items c.from_residual-in_err-push.ensures.0
    (subst (λ l. KeepsReports Report old l) (sym (as_before c.in_err-push.ensures.err c.admit.ensures.reports)) (kept Report old))

pub returns : goal.returns
returns c = λ all before first next found place.
    broken (RepetitionReport all) ⊥ c.args.reports.now.kept.items c.push.new.self.kept.items _ (added_to _ c.in_ok-push.ensures.ok c.admit.ensures.reports) (λ no. no) (record {
      first = first;
      again = c.args.name.now;
      repeats = record { before = before; after = next.after; split = next.split; first_is = found };
      name_is = search rules;
      original_is = place;
      location_is = search rules;
    })
