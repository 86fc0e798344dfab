use Rattle.graphql_change_kinds.specs.Changes.{interface_removed}
use Rattle.std.proofs.Common.{subst₂, sym}
use Rattle.graphql_change_kinds.specs.Changes.{IsChange}
use Rattle.graphql_change_kinds.specs.declared.changes.Change.TheVariants as change
use Rattle.graphql_nodes.specs.Names.{NameText}
use Rattle.graphql_composite_comparison.proofs.composites.push_removed_interface.Goals as goal

pub push-requires : goal.push-requires
push-requires c =
    subst₂ (λ (ty interface : NameText). IsChange c.args.pair.old.now c.args.pair.new.now (change.InterfaceRemoved ty interface c.args.is_lost)) (sym c.in_ok-ty.ensures) (sym c.in_ok-interface.ensures)
    (interface_removed c.requires.was c.requires.no_longer c.requires.lost)
