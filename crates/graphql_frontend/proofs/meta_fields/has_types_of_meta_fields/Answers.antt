use Rattle.std.proofs.Common.{sym, ◌∙◌}
use Rattle.graphql_frontend.proofs.MetaFieldLemmas.{all_three, each_of_three}
use Rattle.graphql_frontend.proofs.meta_fields.has_types_of_meta_fields.Goals as goal

pub returns : goal.returns
returns c = (
  λ yes.
      let each = each_of_three _ _ _ (sym c.are_all.ensures ∙ yes) in
      record {
        typename = c.has_type_of-typename.ensures.0 each.0;
        schema_field = c.has_type_of-schema_field.ensures.0 each.1;
        type_by_name = c.has_type_of-type_by_name.ensures.0 each.2;
      },
  λ types.
      c.are_all.ensures ∙
      all_three _ _ _ (c.has_type_of-typename.ensures.1 types.typename) (c.has_type_of-schema_field.ensures.1 types.schema_field)
      (c.has_type_of-type_by_name.ensures.1 types.type_by_name),
)
