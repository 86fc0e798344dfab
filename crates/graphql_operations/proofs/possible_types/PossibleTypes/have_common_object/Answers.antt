use Rattle.std.proofs.Common.{sym, ◌∙◌}
use Rattle.graphql_operations.specs.PossibleTypes.{object_names}
use Rattle.graphql_operations.proofs.PossibleTypeLemmas.{common_stands, common_swapped}
use Rattle.graphql_operations.proofs.possible_types.PossibleTypes.have_common_object.Goals as goal

pub returns-then-len : goal.returns-then-len
returns-then-len c =
    let schema = c.args.self.now.schema.now in
    let common = common_stands schema c.args.a.now c.args.b.now (object_names c.objects_of-objects.result) (object_names c.objects_of-others.result) c.objects_of-objects.ensures c.objects_of-others.ensures in
    (λ t. common.1 (sym c.meets.ensures ∙ t), λ h. c.meets.ensures ∙ common.0 h)

pub returns-else-len : goal.returns-else-len
returns-else-len c =
    let schema = c.args.self.now.schema.now in
    let a = c.args.a.now in
    let b = c.args.b.now in
    let common = common_stands schema b a (object_names c.objects_of-others.result) (object_names c.objects_of-objects.result) c.objects_of-others.ensures c.objects_of-objects.ensures in (
      λ t. common_swapped schema b a (common.1 (sym c.meets-else-len.ensures ∙ t)),
      λ h. c.meets-else-len.ensures ∙ common.0 (common_swapped schema a b h),
    )
