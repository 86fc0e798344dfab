use Rattle.graphql_helps.proofs.field_types.has_field_for.Goals as goal

pub returns-in-Ok : goal.returns-in-Ok
returns-in-Ok c = λ _. record {
  is_one = c.is_subtype.ensures.0 c.if-not-is_subtype.false;
  definition = c.in-Ok.field-0.now;
  has = c.in-Ok.ensures;
}
