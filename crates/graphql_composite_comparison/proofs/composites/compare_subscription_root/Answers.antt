use Rattle.std.proofs.Common.{◌≡◌, Some, rules}
use Rattle.graphql_document_building.specs.Trees.{root_name}
use Rattle.graphql_nodes.specs.declared.operation_types.OperationType.TheVariants as operation
use Rattle.graphql_change_kinds.specs.Changes.{root_interface_added, root_member_added}
use Rattle.graphql_composite_comparison.proofs.composites.compare_subscription_root.Goals as goal

pub push_added_member-requires : goal.push_added_member-requires
push_added_member-requires c =
    let is : root_name c.args.pair.old.now operation.Subscription ≡ Some c.in-Some.root.now = search rules in
    root_member_added (c.keeps_subscription_root.ensures.loses c.if-keeps_subscription_root.false c.in-Some.root.now is)

pub push_added_interface-requires : goal.push_added_interface-requires
push_added_interface-requires c =
    let is : root_name c.args.pair.old.now operation.Subscription ≡ Some c.in-Some.root.now = search rules in
    root_interface_added (c.keeps_subscription_root.ensures.loses c.if-keeps_subscription_root.false c.in-Some.root.now is)
