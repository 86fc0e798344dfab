use Rattle.std.proofs.Common.{◌≡◌, ◌++◌, ◌∷◌, [], ap, if◌then◌else◌, subst, take, arith, length}
use Rattle.graphql_documents.proofs.ListLemmas.{more_is}
use Rattle.graphql_nodes.specs.Names.{NameText, same_name}
use Rattle.graphql_pair_merging.specs.FieldGroups.{group_under, name_by}
use Rattle.graphql_pair_merging.proofs.GroupLemmas.{grouped_next}
use Rattle.graphql_pair_merging.proofs.field_groups.group_fields.Goals as goal

pub loop-field-init : goal.loop-field-init
loop-field-init g c = record {
  grouped = λ name. ap (λ l. group_under l name) c.with_hasher-groups.ensures.empty;
  count = omega (arith, ap length c.with_hasher-groups.ensures.empty);
  cost = omega arith;
}

pub loop-field-preserved : goal.loop-field-preserved
loop-field-preserved g c =
    let xs = c.args.fields.now in
    let i = c.loop-field.field-index in
    let x = c.field-item.result in
    let old = c.loop-field.groups.entries in
    let new = c.push_under.new.groups.entries in
    let key : c.name.result.now ≡ name_by c.args.by x = c.name.ensures in
    record {
      grouped = grouped_next c.args.by (take i xs) _ x old new (more_is xs i x c.loop-field-test.true c.field-item.is) c.loop-field.invariant.grouped
          (subst (λ k. (name : NameText) → group_under new name ≡ (if same_name k name then group_under old name ++ x ∷ [] else group_under old name)) key c.in_ok-push_under.ensures.pushed);
      count = omega (arith, c.loop-field.invariant.count, c.in_ok-push_under.ensures.count);
      cost = omega (arith, c.loop-field.invariant.cost, c.take.ensures);
    }
