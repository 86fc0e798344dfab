use Rattle.std.proofs.Common.{◌++◌, sym, subst, map}
use Rattle.graphql_diagnostics.proofs.ReportLemmas.{on_ok}
use Rattle.graphql_leaf_building.specs.Directives.{DirectiveSays}
use Rattle.graphql_schema_building.proofs.PartLemmas.{components_then, with_origin}
use Rattle.graphql_schema_building.specs.Parts.{ComponentsSay}
use Rattle.graphql_schema_building.proofs.parts.add_directives.Goals as goal

pub returns : goal.returns
returns c =
    on_ok c.push_directives.result _ _
    (λ is written s.
    subst (λ l. ComponentsSay DirectiveSays (written ++ map (λ x. (c.args.origin, x)) c.args.trees.now) l) (sym is)
    (components_then DirectiveSays written _ c.args.directives.now.items _ s
    (with_origin DirectiveSays c.args.origin c.args.trees.now c.in_ok-nodes.nodes.items c.in_ok-nodes.ensures)))
    c.push_directives.ensures
