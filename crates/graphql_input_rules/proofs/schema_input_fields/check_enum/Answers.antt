use Rattle.std.proofs.Common.{subst}
use Rattle.indexmap.specs.IndexMap.{values}
use Rattle.graphql_diagnostics.specs.Reports.{KeepsReports}
use Rattle.graphql_input_rules.specs.InputFields.{FieldReport}
use Rattle.graphql_input_rules.specs.SchemaValues.{EnumValuesWrite, InAppliedDirectives}
use Rattle.graphql_input_rules.proofs.PlaceLemmas.{Reported, first_refused, then_checked}
use Rattle.graphql_input_rules.proofs.schema_input_fields.check_enum.Goals as goal

pub returns-in_err-check_applied_directives : goal.returns-in_err-check_applied_directives
returns-in_err-check_applied_directives c =
    let d = c.args.definition.now in
    let old = c.args.reports.now.kept.items in
    let new = c.check_applied_directives.new.reports.kept.items in
    first_refused c.from_residual.result (InAppliedDirectives d.directives.items) (EnumValuesWrite (values d.values)) old new c.from_residual.ensures.0
    (subst (λ l. KeepsReports (FieldReport (InAppliedDirectives l)) old new) c.deref.ensures.value c.in_err-check_applied_directives.ensures)

pub returns : goal.returns
returns c =
    let d = c.args.definition.now in
    let r = c.check_enum_values.result in
    let old = c.args.reports.now.kept.items in
    let mid = c.check_applied_directives.new.reports.kept.items in
    let new = c.check_enum_values.new.reports.kept.items in
    then_checked r (InAppliedDirectives d.directives.items) (EnumValuesWrite (values d.values)) old mid new
    (subst (λ l. Reported (InAppliedDirectives l) old mid) c.deref.ensures.value c.in_ok-check_applied_directives.ensures)
    c.check_enum_values.ensures
