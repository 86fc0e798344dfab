use Rattle.graphql_shape_comparison.proofs.LearnsLemmas.{type_learned}
use Rattle.graphql_shape_comparison.proofs.meetings.Meetings.add_type.Goals as goal

pub returns : goal.returns
returns c =
    type_learned c.args.pair.old.now c.args.pair.new.now c.args.ty.now c.args.definition.now
    c.in_ok-add_own_fields.ensures c.in_ok-add_meta_field.ensures c.in_ok-add_meta_field-2.ensures c.in_ok-add_meta_field-3.ensures
