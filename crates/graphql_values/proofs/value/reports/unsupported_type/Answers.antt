use Rattle.std.proofs.Common.{refl, rules}
use Rattle.graphql_diagnostics.proofs.ReportLemmas.{checks-push}
use Rattle.graphql_specification.specs.Values.{within_itself}
use Rattle.graphql_values.specs.ValueSteps.{written_at}
use Rattle.graphql_values.proofs.AcceptsLemmas.{cannot_accept}
use Rattle.graphql_values.proofs.value.reports.unsupported_type.Goals as goal

pub returns : goal.returns
returns c = λ schema variables whole definition is cannot.
    checks-push _ _ _ _ _ _ c.push.ensures.ok c.push.ensures.err
    (cannot_accept schema variables whole definition c.args.value.now.value.value c.args.expected.now.ty.now is cannot)
    (record {
      inner_ty = written_at whole c.args.expected.now.location;
      inner = c.args.value.now;
      lies = within_itself;
      broken = record {
        definition = definition;
        as_type = c.args.expected.now.ty.now;
        defined = is;
        cannot = cannot;
        value_is = record { same_value = search rules; same_location = search rules };
        type_is = c.in_ok-ty.ensures;
        definition_location_is = refl;
        at_is = refl;
      };
    })
