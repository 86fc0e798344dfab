use Rattle.graphql_suggestions.specs.Defined.{field_names}
use Rattle.graphql_helps.proofs.FieldLemmas.{field_helps}
use Rattle.graphql_helps.proofs.building.help_of_field.Goals as goal

pub returns-then-is_empty : goal.returns-then-is_empty
returns-then-is_empty c =
    let schema = c.args.schema.now in
    let ty = c.args.type_name.now in
    let field = c.args.field_name.now in
    field_helps schema ty field c.did_you_mean.result (c.did_you_mean.ensures (field_names schema ty) field c.in_ok-like_field.ensures)
