use Rattle.std.proofs.Common.{Bor, List, map, ◌∙◌, ap, subst}
use Rattle.graphql_documents.specs.Selections.{selections_of}
use Rattle.graphql_documents.specs.declared.documents.directives.Directive.{Directive}
use Rattle.graphql_nodes.specs.declared.nodes.Node.{Node}
use Rattle.graphql_operations.specs.DeferLabels.{MeetsDefers}
use Rattle.graphql_operations.proofs.WrittenDeferLemmas.{meets_at, meets_whole}
use Rattle.graphql_operations.proofs.defer.written.written_defers.Goals as goal

pub returns : goal.returns
returns c =
    let set = c.args.set.now in
    let refs = λ (l : List (Bor (Node Directive))). map (λ d. d.now) l in
    let new = refs c.walk_set.new.visited.items in
    let complete = c.in_ok-complete.complete in
    meets_whole set new complete
    (subst (λ (old : List (Node Directive)). MeetsDefers 500 0 1 (selections_of set) old new complete) (ap refs c.new-applications.ensures.items)
    (meets_at 500 0 _ _ c.with_limit-depth.ensures.limit (c.with_limit-depth.ensures.depth ∙ c.new.ensures.depth) c.in_ok-complete.ensures.walks))
