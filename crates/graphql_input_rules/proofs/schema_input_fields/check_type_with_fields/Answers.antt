use Rattle.indexmap.specs.IndexMap.{values}
use Rattle.graphql_input_rules.specs.SchemaValues.{FieldsWrite, InAppliedDirectives}
use Rattle.graphql_input_rules.proofs.PlaceLemmas.{first_refused, then_checked}
use Rattle.graphql_input_rules.proofs.schema_input_fields.check_type_with_fields.Goals as goal

pub returns-in_err-check_applied_directives : goal.returns-in_err-check_applied_directives
returns-in_err-check_applied_directives c =
    first_refused c.from_residual.result (InAppliedDirectives c.args.directives.now) (FieldsWrite (values c.args.fields.now)) c.args.reports.now.kept.items
    c.check_applied_directives.new.reports.kept.items c.from_residual.ensures.0 c.in_err-check_applied_directives.ensures

pub returns : goal.returns
returns c =
    then_checked c.check_field_definitions.result (InAppliedDirectives c.args.directives.now) (FieldsWrite (values c.args.fields.now)) c.args.reports.now.kept.items
    c.check_applied_directives.new.reports.kept.items c.check_field_definitions.new.reports.kept.items c.in_ok-check_applied_directives.ensures c.check_field_definitions.ensures
