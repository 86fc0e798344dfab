use Rattle.graphql_input_rules.specs.SchemaValues.{SchemaInputFieldReport, SchemaInputFieldsAreUnique, SchemaWrites}
use Rattle.graphql_frontend.proofs.FirstReportLemmas.{decides_if_ok, field_excludes}
use Rattle.graphql_frontend.proofs.schema_rules.repeated_input_fields.Goals as goal

pub returns : goal.returns
returns c =
    let schema = c.args.schema.now in
    decides_if_ok c.check_schema_input_fields-checked.result (SchemaInputFieldsAreUnique schema) (SchemaInputFieldReport schema) _ _ c.kept_reports.result c.check_schema_input_fields-checked.ensures
    c.with_bound-input_fields.ensures.empty c.kept_reports.ensures.kept c.kept_reports.ensures.some (field_excludes (SchemaWrites schema))
