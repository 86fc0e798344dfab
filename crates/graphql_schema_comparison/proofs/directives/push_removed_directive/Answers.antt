use Rattle.std.proofs.Common.{sym, subst}
use Rattle.graphql_change_kinds.specs.Changes.{IsChange, directive_removed}
use Rattle.graphql_change_kinds.specs.declared.changes.Change.TheVariants as change
use Rattle.graphql_coordinates.specs.declared.coordinates.DirectiveCoordinate.{DirectiveCoordinate}
use Rattle.graphql_schema_comparison.proofs.directives.push_removed_directive.Goals as goal

pub push-requires : goal.push-requires
push-requires c =
    let old = c.args.pair.old.now in
    let new = c.args.pair.new.now in
    subst (λ (k : DirectiveCoordinate). IsChange old new (change.DirectiveRemoved k c.args.is_executable)) (sym c.in_ok-directive.ensures)
    (directive_removed c.requires.applicable c.requires.gone)
