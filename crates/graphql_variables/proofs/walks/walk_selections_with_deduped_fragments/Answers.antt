use Rattle.std.proofs.lemmas.Result.{IfOk-weaker}
use Rattle.graphql_documents.proofs.SelectionLemmas.{one_fragment_found}
use Rattle.graphql_documents.specs.Selections.{Reachable, fragments_of}
use Rattle.graphql_documents.specs.Walks.{full_walk}
use Rattle.graphql_variables.proofs.WalkedLemmas.{listed_words, visited_reachable}
use Rattle.graphql_variables.specs.WalkSteps.{VisitedFrom}
use Rattle.graphql_variables.proofs.walks.walk_selections_with_deduped_fragments.Goals as goal

pub returns : goal.returns
returns c =
    let fragments = fragments_of c.args.document.now in
    let set = c.args.selection_set.now in
    IfOk-weaker _ _ _ (λ walked. listed_words {P = VisitedFrom fragments full_walk set} {Q = Reachable fragments set}
    (visited_reachable fragments (one_fragment_found c.args.document.now) set)) c.over.ensures.listed
