use Rattle.std.proofs.Common.{◌∷◌, [], subst, sym}
use Rattle.std.proofs.lemmas.List.Elements.{All-append, All-cons, All-nil}
use Rattle.std.specs.List.{All}
use Rattle.graphql_nodes.specs.Names.{NameText}
use Rattle.graphql_helps.specs.Helps.{HasFieldFor}
use Rattle.graphql_helps.proofs.field_types.types_with_field.Goals as goal

pub loop-name-preserved-then-has_field_for : goal.loop-name-preserved-then-has_field_for
loop-name-preserved-then-has_field_for c =
    let P : NameText → Type 0 = HasFieldFor c.args.schema.now c.args.type_name.now c.args.field_name.now in
    let name = c.in_ok-clone_in.field-0 in
    let one : P name = subst P (sym c.in_ok-clone_in.ensures) (c.has_field_for.ensures c.if-has_field_for.true) in
    record {
      can_next = tt;
      is_finite = tt;
      have = subst (All P) (sym c.in_ok-push.ensures.items)
          (All-append P c.loop-name.types.items (name ∷ []) c.loop-name.invariant.have (All-cons P name [] one (All-nil P)));
    }
