use Rattle.std.specs.List.{All}
use Rattle.graphql_helps.specs.Helps.{HasFieldFor}
use Rattle.graphql_helps.proofs.field_types.types_with_field.Given as goal

abbrev pub invariant-loop-name : goal.invariant-loop-name
invariant-loop-name l = record {
  can_next : goal.iterator-loop-name.can_next l.name-iterator;
  is_finite : goal.iterator-loop-name.is_finite l.name-iterator;
  have : All (HasFieldFor l.schema l.type_name l.field_name) l.types.items;
}
