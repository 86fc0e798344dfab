use Rattle.std.proofs.Common.{◌≡◌, ◌++◌, map, rules}
use Rattle.std.proofs.lemmas.Result.{on_ok_weaker}
use Rattle.graphql_diagnostics.specs.Diagnostics.{entries}
use Rattle.graphql_shown_reports.specs.Shown.{input_field, more, once_if, validation}
use Rattle.graphql_findings.specs.Singles.{report_of}
use Rattle.graphql_findings.proofs.SingleLemmas.{joined}
use Rattle.graphql_findings.proofs.singles.push_schema.Goals as goal

pub returns : goal.returns
returns c =
    let found = map validation (entries c.args.reports.now.rules) in
    let fields = map input_field c.args.reports.now.input_fields.items in
    let told = map (λ _. more) (once_if c.args.reports.now.has_more) in
    let old = map report_of c.args.singles.now.items in
    let behind_rules = map report_of c.push_rules.new.singles.items in
    let behind_fields = map report_of c.push_repetitions.new.singles.items in
    let new = map report_of c.push_more_if.new.singles.items in
    let rules_are : behind_rules ≡ old ++ found = search rules in
    let fields_are : behind_fields ≡ behind_rules ++ fields = search rules in
    on_ok_weaker {P = new ≡ behind_fields ++ told} c.push_more_if.result
    (λ so. joined old behind_rules new found (fields ++ told) rules_are (joined behind_rules behind_fields new fields told fields_are so))
    c.push_more_if.ensures
