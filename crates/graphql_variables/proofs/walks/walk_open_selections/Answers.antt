use Rattle.std.proofs.lemmas.Result.{IfOk-weaker}
use Rattle.graphql_documents.proofs.SelectionLemmas.{one_fragment_found}
use Rattle.graphql_documents.specs.Selections.{fragments_of}
use Rattle.graphql_specification.specs.Defer.{Open}
use Rattle.graphql_documents.specs.Walks.{open_walk}
use Rattle.graphql_variables.proofs.WalkedLemmas.{listed_words, visited_open}
use Rattle.graphql_variables.specs.WalkSteps.{VisitedFrom}
use Rattle.graphql_variables.proofs.walks.walk_open_selections.Goals as goal

pub returns : goal.returns
returns c =
    let fragments = fragments_of c.args.document.now in
    let set = c.args.selection_set.now in
    IfOk-weaker _ _ _ (λ walked. listed_words {P = VisitedFrom fragments open_walk set} {Q = Open fragments set}
    (visited_open fragments (one_fragment_found c.args.document.now) set)) c.over.ensures.listed
