use Rattle.graphql_change_kinds.proofs.FindsLemmas.{adds_found}
use Rattle.std.proofs.Common.{sym, subst, rules}
use Rattle.std.specs.Prelude.{IsNone}
use Rattle.graphql_documents.specs.Directives.{directive_definition}
use Rattle.graphql_change_kinds.specs.Changes.{IsChange, directive_added}
use Rattle.graphql_change_kinds.specs.declared.changes.Change.TheVariants as change
use Rattle.graphql_coordinates.specs.declared.coordinates.DirectiveCoordinate.{DirectiveCoordinate}
use Rattle.graphql_schema_comparison.proofs.directives.find_added_directive.Goals as goal

pub push-requires : goal.push-requires
push-requires c =
    let old = c.args.pair.old.now in
    let new = c.args.pair.new.now in
    let none : IsNone (directive_definition old c.args.name.now) = search rules in
    subst (λ (k : DirectiveCoordinate). IsChange old new (change.DirectiveAdded k)) (sym c.in_ok-coordinate.ensures) (directive_added none c.requires)

pub returns : goal.returns
returns c = adds_found c.in_ok-push.ensures
