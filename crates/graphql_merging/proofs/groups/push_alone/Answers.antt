use Rattle.std.proofs.Common.{◌∙◌, ap, sym}
use Rattle.graphql_merging.specs.NumberedFields.{lists_of}
use Rattle.graphql_merging.proofs.GroupLemmas.{added_alone, left_alone}
use Rattle.graphql_merging.proofs.groups.push_alone.Goals as goal

pub returns-then-not-is_on_composite-clause-groups : goal.returns-then-not-is_on_composite-clause-groups
returns-then-not-is_on_composite-clause-groups c =
    left_alone c.args.schema.now (lists_of c.args.groups.now.items) c.args.group.items c.index.result.now c.requires c.index.ensures
    (sym c.is_on_composite.ensures ∙ c.if-not-is_on_composite.true)

pub returns-clause-groups : goal.returns-clause-groups
returns-clause-groups c =
    ap lists_of c.in_ok-push.ensures.items ∙
    added_alone c.args.schema.now c.args.groups.now.items c.args.group c.index.result.now c.requires c.index.ensures
    (sym c.is_on_composite.ensures ∙ c.if-not-is_on_composite.false)
