use Rattle.std.proofs.Common.{false}
use Rattle.std.specs.Option.{option_copied}
use Rattle.graphql_frontend.proofs.DocumentLemmas.{all_decide, others_hold}
use Rattle.graphql_frontend.proofs.document_rules.document_reports.Goals as goal

pub returns : goal.returns
returns c = λ are.
    let schema = option_copied c.args.schema in
    let document = c.args.document.now in
    record {
      rules = are;
      undefined_variables = c.in_ok-undefined_variables.ensures;
      input_fields = c.in_ok-input_fields.ensures;
      usages = c.in_ok-usages.ensures;
      decides = λ built no_limit.
          all_decide schema document
          (record { rules = c.args.rules; undefined_variables = c.in_ok-undefined_variables.undefined_variables; input_fields = c.in_ok-input_fields.input_fields; usages = c.in_ok-usages.usages; has_more = false })
          (are.decides built no_limit) c.in_ok-undefined_variables.ensures c.in_ok-input_fields.ensures c.in_ok-usages.ensures;
      others = λ built off only.
          others_hold schema document off
          (record { rules = c.args.rules; undefined_variables = c.in_ok-undefined_variables.undefined_variables; input_fields = c.in_ok-input_fields.input_fields; usages = c.in_ok-usages.usages; has_more = false })
          (are.others built off only.0) c.in_ok-undefined_variables.ensures c.in_ok-input_fields.ensures c.in_ok-usages.ensures only;
    }
