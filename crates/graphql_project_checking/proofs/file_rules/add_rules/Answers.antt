use Rattle.std.proofs.Common.{rules}
use Rattle.std.specs.Prelude.{All, IsOk}
use Rattle.graphql_diagnostics.specs.Diagnostics.{entries}
use Rattle.graphql_frontend.specs.Documents.{IsOnlyOff}
use Rattle.graphql_frontend.specs.RuleSets.{NamesRuleIn, RuleSet}
use Rattle.graphql_project_checking.specs.Silence.{QuietOnlyIf}
use Rattle.graphql_project_checking.proofs.SilenceLemmas.{never_quiet, on_ok, quiet_so}
use Rattle.graphql_project_checking.proofs.file_rules.add_rules.Goals as goal

pub returns-in-Ok : goal.returns-in-Ok
returns-in-Ok c =
    let old = c.args.found.now.items in
    let new = c.add_all_rules.new.found.items in
    let H = λ (off : RuleSet). All (λ e. NamesRuleIn off e.details) (entries c.args.rules) in
    record {
      silence = on_ok (QuietOnlyIf old new H) (QuietOnlyIf old new (λ off. IsOk c.args.checked × H off))
          (quiet_so old new H (λ off. IsOk c.args.checked × H off) (λ off h. (search rules, h))) c.add_all_rules.result c.add_all_rules.ensures.silence;
      truth = c.add_all_rules.ensures.truth;
    }

pub returns-in-Err : goal.returns-in-Err
returns-in-Err c =
    let old = c.args.found.now.items in
    let new = c.add_first_rules.new.found.items in
    let H = λ (off : RuleSet). All (λ e. NamesRuleIn off e.details) (entries c.args.rules) in
    record {
      silence = on_ok ((off : RuleSet) → ¬ All (IsOnlyOff off) new) (QuietOnlyIf old new (λ off. IsOk c.args.checked × H off)) (never_quiet old new (λ off. IsOk c.args.checked × H off)) c.add_first_rules.result c.add_first_rules.ensures.some;
      truth = c.add_first_rules.ensures.truth;
    }
