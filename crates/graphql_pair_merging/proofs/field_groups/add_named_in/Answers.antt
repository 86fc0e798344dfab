use Rattle.std.proofs.Common.{◌≡◌, ◌+◌, ◌++◌, ◌∷◌, [], subst, sym, take, arith}
use Rattle.graphql_documents.proofs.ListLemmas.{more_is}
use Rattle.graphql_pair_merging.proofs.JoinLemmas.{named_none, named_one}
use Rattle.graphql_pair_merging.specs.FieldGroups.{AddsNamed}
use Rattle.graphql_pair_merging.proofs.field_groups.add_named_in.Goals as goal
use Rattle.graphql_pair_merging.proofs.field_groups.add_named_in.Goals.{then-is_named_in+in_ok-push, else-is_named_in}

pub loop-field-preserved : goal.loop-field-preserved
loop-field-preserved g c =
    let xs = c.args.others.now in
    let i = c.loop-field.field-index in
    let x = c.field-item.result in
    let by' = c.args.by in
    let groups = c.args.groups.now.entries in
    let old = c.args.fields.now.items in
    let now = c.loop-field.fields.items in
    let more : take (i + 1) xs ≡ take i xs ++ x ∷ [] = more_is xs i x c.loop-field-test.true c.field-item.is in
    record {
      cost = omega (arith, c.loop-field.invariant.cost, c.take.ensures);
      added = elim c.if-is_named_in.branch [
        | then-is_named_in+in_ok-push w ↦
            subst (λ v. AddsNamed by' groups (take (i + 1) xs) old v.items) (sym w.fields-is)
            (named_one by' groups (take i xs) (take (i + 1) xs) x old now w.push.new.self.items more w.in_ok-push.ensures.items c.loop-field.invariant.added)
        | else-is_named_in w ↦
            subst (λ v. AddsNamed by' groups (take (i + 1) xs) old v.items) (sym w.fields-is)
            (named_none by' groups (take i xs) (take (i + 1) xs) x old now more (c.is_named_in.ensures w.if-is_named_in.false) c.loop-field.invariant.added)
      ];
    }
