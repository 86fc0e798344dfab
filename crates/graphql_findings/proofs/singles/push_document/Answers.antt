use Rattle.std.proofs.Common.{◌≡◌, ◌++◌, map, rules}
use Rattle.std.proofs.lemmas.Result.{on_ok_weaker}
use Rattle.graphql_diagnostics.specs.Diagnostics.{entries}
use Rattle.graphql_shown_reports.specs.Shown.{input_field, more, once_if, usage, validation}
use Rattle.graphql_findings.specs.Singles.{report_of}
use Rattle.graphql_findings.proofs.SingleLemmas.{joined}
use Rattle.graphql_findings.proofs.singles.push_document.Goals as goal

pub returns : goal.returns
returns c =
    let found = map validation (entries c.args.reports.now.rules) in
    let undefined = map validation c.args.reports.now.undefined_variables.items in
    let fields = map input_field c.args.reports.now.input_fields.items in
    let usages = map usage c.args.reports.now.usages.items in
    let told = map (λ _. more) (once_if c.args.reports.now.has_more) in
    let old = map report_of c.args.singles.now.items in
    let behind_rules = map report_of c.push_rules.new.singles.items in
    let behind_undefined = map report_of c.push_rules-2.new.singles.items in
    let behind_fields = map report_of c.push_repetitions.new.singles.items in
    let behind_usages = map report_of c.push_misuses.new.singles.items in
    let new = map report_of c.push_more_if.new.singles.items in
    let rules_are : behind_rules ≡ old ++ found = search rules in
    let undefined_are : behind_undefined ≡ behind_rules ++ undefined = search rules in
    let fields_are : behind_fields ≡ behind_undefined ++ fields = search rules in
    let usages_are : behind_usages ≡ behind_fields ++ usages = search rules in
    on_ok_weaker {P = new ≡ behind_usages ++ told} c.push_more_if.result
    (λ so. joined old behind_rules new found (undefined ++ (fields ++ (usages ++ told))) rules_are
    (joined behind_rules behind_undefined new undefined (fields ++ (usages ++ told)) undefined_are
    (joined behind_undefined behind_fields new fields (usages ++ told) fields_are
    (joined behind_fields behind_usages new usages told usages_are so))))
    c.push_more_if.ensures
