use Rattle.graphql_input_rules.specs.InputFields.{InputFieldReport, InputFieldsAreUnique}
use Rattle.graphql_input_rules.specs.ValuesWritten.{DocumentWrites}
use Rattle.graphql_frontend.proofs.FirstReportLemmas.{decides_if_ok, field_excludes}
use Rattle.graphql_frontend.proofs.document_rules.repeated_input_fields.Goals as goal

pub returns : goal.returns
returns c =
    let document = c.args.document.now in
    decides_if_ok c.check_input_fields-checked.result (InputFieldsAreUnique document) (InputFieldReport document) _ _ c.kept_reports.result c.check_input_fields-checked.ensures
    c.with_bound-input_fields.ensures.empty c.kept_reports.ensures.kept c.kept_reports.ensures.some (field_excludes (DocumentWrites document))
