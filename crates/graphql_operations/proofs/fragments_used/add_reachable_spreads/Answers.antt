use Rattle.std.proofs.Common.{List, map, subst}
use Rattle.std.specs.Borrow.{Bor}
use Rattle.graphql_documents.specs.Selections.{Reachable, fragments_of}
use Rattle.graphql_documents.specs.Walks.{HasListed, PassesDepth, full_walk}
use Rattle.graphql_documents.specs.declared.documents.executables.Operation.{Operation}
use Rattle.graphql_documents.specs.declared.documents.executables.Selection.{Selection}
use Rattle.graphql_variables.specs.Uses.{NamesAlso}
use Rattle.graphql_operations.specs.UsedFragments.{IsSpreadAmong}
use Rattle.graphql_operations.proofs.UsedFragmentLemmas.{adds_spreads}
use Rattle.graphql_operations.proofs.fragments_used.add_reachable_spreads.Goals as goal

pub returns : goal.returns
returns c =
    let fragments = fragments_of c.args.document.now in
    let walked = c.in_ok-walked.walked in
    let old = c.args.names.now.keys in
    let new = c.add_spreads.new.names.keys in
    let listed = subst (λ (o : Operation). HasListed (Reachable fragments o.selection_set) (PassesDepth fragments full_walk o.selection_set)
    (map (λ (b : Bor Selection). b.now) walked.selections.items) walked.complete) c.deref.ensures c.in_ok-walked.ensures in
    let also = subst (λ (l : List (Bor Selection)). NamesAlso (IsSpreadAmong (map (λ (b : Bor Selection). b.now) l)) old new)
    c.deref-2.ensures.value c.in_ok-add_spreads.ensures in
    adds_spreads c.args.document.now c.args.operation.now _ walked.complete old new listed also
