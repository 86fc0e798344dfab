use Rattle.std.proofs.Common.{subst₂, sym}
use Rattle.graphql_change_kinds.specs.Changes.{IsChange}
use Rattle.graphql_change_kinds.specs.declared.changes.Change.TheVariants as change
use Rattle.graphql_nodes.specs.Names.{NameText}
use Rattle.graphql_composite_comparison.proofs.composites.push_added_interface.Goals as goal

pub push-requires : goal.push-requires
push-requires c =
    subst₂ (λ (ty interface : NameText). IsChange c.args.pair.old.now c.args.pair.new.now (change.InterfaceAdded ty interface c.args.gain)) (sym c.in_ok-ty.ensures) (sym c.in_ok-interface.ensures) c.requires
