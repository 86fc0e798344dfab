use Rattle.std.proofs.Common.{rules}
use Rattle.graphql_diagnostics.proofs.ReportLemmas.{checks-push}
use Rattle.graphql_specification.specs.FieldDefinitions.{field_type}
use Rattle.graphql_field_definitions.proofs.fields.report_no_output_type.Goals as goal

pub returns : goal.returns
returns c = λ schema defined.
    checks-push _ _ _ _ _ _ c.push.ensures.ok c.push.ensures.err (λ no. no)
    (field_type (record {
      kind_is = (c.args.definition.now, defined, c.requires, search rules);
      name_is = search rules;
      type_location_is = search rules;
      at_is = search rules;
    }))
