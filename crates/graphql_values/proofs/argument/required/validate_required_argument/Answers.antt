use Rattle.std.proofs.Common.{◌≡◌, true, refl, rules}
use Rattle.graphql_specification.specs.Arguments.{IsProvided}
use Rattle.graphql_documents.specs.Schemas.{is_required}
use Rattle.graphql_diagnostics.proofs.ReportLemmas.{checks-push}
use Rattle.graphql_values.specs.GivenArguments.{of_missing_argument}
use Rattle.graphql_values.proofs.argument.required.validate_required_argument.Goals as goal

pub returns : goal.returns
returns c =
    let required : is_required c.args.definition.now.value.value ≡ true = search rules in
    let missing : ¬ IsProvided c.args.arguments.now.given.now c.args.definition.now.value.value.name = search rules in
    checks-push _ _ _ _ _ _ c.push.ensures.ok c.push.ensures.err (λ holds. missing (holds required))
    (of_missing_argument (record {
      definition = c.args.definition.now;
      is_defined = c.requires.defined;
      required = required;
      missing = missing;
      name_is = search rules;
      coordinate_is = search rules;
      expected_is = record { same_value = search rules; same_location = search rules };
      definition_location_is = refl;
      at_is = refl;
    }))
