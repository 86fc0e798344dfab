use Rattle.std.proofs.Common.{IsSome, refl, ◌∙◌, rules}
use Rattle.indexmap.specs.IndexMap.{get}
use Rattle.graphql_diagnostics.proofs.ReportLemmas.{holds, checks-push}
use Rattle.graphql_nodes.specs.Names.{same_name}
use Rattle.graphql_specification.specs.Values.{within_itself}
use Rattle.graphql_values.proofs.LeafLemmas.{custom_enum_accepted, enum_cannot, known_enum_accepted, unknown_enum_refused}
use Rattle.graphql_values.specs.ValueSteps.{written_at}
use Rattle.graphql_values.proofs.value.leaves.check_enum_value.Goals as goal

pub returns-then-is_custom_scalar : goal.returns-then-is_custom_scalar
returns-then-is_custom_scalar c = λ schema variables is.
    holds _ _ _ (custom_enum_accepted schema variables c.args.expected.now.ty.now c.args.expected.now.definition.now _ is c.args.name.now c.requires (search rules))

pub returns-in_default : goal.returns-in_default
returns-in_default c = λ schema variables is.
    c.unsupported_type.ensures schema variables c.args.expected.now.ty.now c.args.expected.now.definition.now is
    (enum_cannot schema variables c.args.expected.now.ty.now c.args.expected.now.definition.now _ is c.args.name.now c.requires (search rules) c.in_default.not-Enum)

pub returns-then-contains_key : goal.returns-then-contains_key
returns-then-contains_key c = λ schema variables is.
    let known : IsSome (get same_name c.in-Enum.enum_type.value.value.values c.args.name.now) = search rules in
    holds _ _ _ (known_enum_accepted schema variables c.args.expected.now.ty.now c.args.expected.now.definition.now _ is c.args.name.now c.in-Enum.enum_type c.requires c.in-Enum.is known)

pub returns : goal.returns
returns c = λ schema variables is.
    let t = c.in-Enum.enum_type in
    let unknown : ¬ IsSome (get same_name t.value.value.values c.args.name.now) = search rules in
    checks-push _ _ _ _ _ _ c.push.ensures.ok c.push.ensures.err
    (unknown_enum_refused schema variables c.args.expected.now.ty.now c.args.expected.now.definition.now _ is c.args.name.now t c.requires c.in-Enum.is unknown)
    (record {
      inner_ty = written_at c.args.expected.now.ty.now c.args.expected.now.location;
      inner = c.args.value.now;
      lies = within_itself;
      broken = record {
        definition = t;
        defined = is ∙ search rules;
        is_enum_value = search rules;
        unknown = search rules;
        definition_name_is = search rules;
        definition_location_is = refl;
        at_is = search rules;
      };
    })
