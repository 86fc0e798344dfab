use Rattle.std.proofs.Common.{subst₂, sym}
use Rattle.graphql_change_kinds.specs.Changes.{IsChange}
use Rattle.graphql_change_kinds.specs.declared.changes.Change.TheVariants as change
use Rattle.graphql_nodes.specs.Names.{NameText}
use Rattle.graphql_composite_comparison.proofs.composites.push_added_member.Goals as goal

pub push-requires : goal.push-requires
push-requires c =
    subst₂ (λ (ty member : NameText). IsChange c.args.pair.old.now c.args.pair.new.now (change.MemberAdded ty member c.args.gain)) (sym c.in_ok-union.ensures) (sym c.in_ok-member.ensures) c.requires
